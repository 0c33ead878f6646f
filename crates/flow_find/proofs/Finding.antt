-- The last vertex left: where some set corrects it, what the rows give does.
use Rattle.std.proofs.Common.{◌≡◌, refl, sym, ◌∙◌, ap, ap₂, ⊎_elim, ℕ, Bool, true, false, not, ◌&&◌, ◌||◌, eqb, List}
use Rattle.std.proofs.lemmas.Bool.{false_from_ne_true, true≢false, eqb-true}
use Rattle.zx_model.specs.Bits.{xor, member}
use Rattle.zx_calculus.proofs.Booleans.{parities, and-false, xor-false}
use Rattle.zx_calculus.proofs.Ids.{by_test, by_equal, eqb-self, and-left, and-right, not-true}
use Rattle.zx_calculus.specs.Graph.{XY}
use Rattle.gflow_laws.specs.Seen.{Seen, in_odd_neighbourhood}
use Rattle.gflow_laws.specs.Flow.{is_in, Corrects, inside_in, odd_in}
use Rattle.gflow_laws.specs.Correcting.{Simple}
use Rattle.gflow_laws.proofs.Linear.{masked-of-xor, masked-of-and, masked-one}
use Rattle.gflow_laws.proofs.Corrects.{xor_true}
use Rattle.flow_find.specs.declared.row.Row.{Row}
use Rattle.flow_find.specs.Frontiers.{gathered, target_of, set_from, usable, IsLeft, NoneLeftAfter, AllGoneAfter, IsCorrectable, IsRow, IsFrontier, IsFrontierOf, IsSpanned, with_one}
use Rattle.flow_find.proofs.Sums.{AreAll-weaker, combined-same, spans_sets, odd-gathered, gathered_may}

-- a set and v itself where the bit says so
odd_with : (s : Seen) (v : ℕ) (inside : Bool) (A : ℕ → Bool) (w : ℕ) → Simple s → member v s.ids ≡ true →
    in_odd_neighbourhood s (λ x. xor (inside && eqb x v) (A x)) w ≡ xor (inside && s.adjacent v w) (in_odd_neighbourhood s A w)
odd_with s v inside A w simple there =
    masked-of-xor (s.adjacent w) s.ids (λ x. inside && eqb x v) A
    ∙ ap (λ b. xor b (in_odd_neighbourhood s A w))
    (masked-of-and inside (s.adjacent w) s.ids (λ x. eqb x v)
    ∙ ap (λ b. inside && b) (masked-one (s.adjacent w) s.ids v simple.distinct there ∙ simple.symmetric w v))

usable_from : (a b c : Bool) → a ≡ true → b ≡ false → c ≡ false → (a && (not b && not c)) ≡ true
usable_from a b c x y z = ap₂ (λ p q. p && q) x (ap₂ (λ p q. not p && not q) y z)

-- a set without its vertex, where the plane says that it is in it
abbrev others_of : Seen → ℕ → (ℕ → Bool) → ℕ → Bool
others_of s v A w = xor (inside_in (s.plane v) && eqb w v) (A w)

twice : (b : Bool) → xor (b && true) b ≡ false
twice true = refl
twice false = refl

alone : (b : Bool) → xor (b && true) false ≡ b
alone true = refl
alone false = refl

with_true : (b e : Bool) → e ≡ true → b ≡ (b && e)
with_true true e t = sym t
with_true false e t = refl

with_false : (b e : Bool) → e ≡ false → false ≡ (b && e)
with_false true e f = sym f
with_false false e f = refl

-- what a correcting set is without its vertex makes the vertex correctable
pub correctable : (s : Seen) (before : ℕ → ℕ → Bool) (left : ℕ → Bool) (v : ℕ) (A : ℕ → Bool) → Simple s → IsLeft s left v → NoneLeftAfter before left v →
    Corrects s before v A → IsCorrectable s left v
correctable s before left v A simple is_left gone a = record { set = others_of s v A; members = members; sums = sums }
  where
    at_v : others_of s v A v ≡ false
    at_v = ap₂ (λ e b. xor (inside_in (s.plane v) && e) b) (eqb-self v) a.inside ∙ twice (inside_in (s.plane v))

    other : (w : ℕ) → eqb w v ≡ false → others_of s v A w ≡ A w
    other w n = ap (λ e. xor (inside_in (s.plane v) && e) (A w)) n ∙ ap (λ b. xor b (A w)) (and-false (inside_in (s.plane v)))

    members : (w : ℕ) → others_of s v A w ≡ true → usable s left w ≡ true
    members w e = by_equal w v
        (λ t same. absurd (true≢false (sym e ∙ ap (others_of s v A) same ∙ at_v)))
        (λ f n. let h : A w ≡ true = sym (other w f) ∙ e in
        usable_from (member w s.ids) (s.input w) (left w) (a.members w h) (a.input w h) (gone w (a.order w h n)))

    sums : (w : ℕ) → left w ≡ true → in_odd_neighbourhood s (others_of s v A) w ≡ target_of s v w
    sums w l = odd_with s v (inside_in (s.plane v)) A w simple (is_left.vertices v is_left.there)
        ∙ ap (xor (inside_in (s.plane v) && s.adjacent v w)) (by_equal w v
        (λ t same. ap (in_odd_neighbourhood s A) same ∙ a.odd_there ∙ with_true (odd_in (s.plane v)) (eqb w v) t)
        (λ f n. false_from_ne_true (in_odd_neighbourhood s A w) (λ o. true≢false (sym l ∙ gone w (a.odd_order w (is_left.vertices w l) o n))) ∙ with_false (odd_in (s.plane v)) (eqb w v) f))

-- on the vertices left the rows that the target picks sum up to it
pub sums_up : (s : Seen) (left : ℕ → Bool) (v : ℕ) (rows : List Row) (w : ℕ) → Simple s → IsFrontier s left left (usable s left) rows → IsCorrectable s left v → left w ≡ true →
    in_odd_neighbourhood s (gathered (target_of s v) rows) w ≡ target_of s v w
sums_up s left v rows w simple frontier c l =
    odd-gathered s left (usable s left) (target_of s v) rows w frontier.each l
    ∙ combined-same (target_of s v) (in_odd_neighbourhood s c.set) rows w (AreAll-weaker (λ r. left r.pivot ≡ true) (λ r. target_of s v r.pivot ≡ in_odd_neighbourhood s c.set r.pivot) rows (λ r p. sym (c.sums r.pivot p)) frontier.pivots)
    ∙ sym (spans_sets s left left (usable s left) rows c.set w simple frontier c.members l)
    ∙ c.sums w l

cancelled : (a b : Bool) → xor a (xor a b) ≡ b
cancelled a b = simp parities

pub found : (s : Seen) (before : ℕ → ℕ → Bool) (left : ℕ → Bool) (v : ℕ) (rows : List Row) → Simple s → IsLeft s left v → AllGoneAfter s before left v → IsFrontierOf s left rows →
    IsCorrectable s left v → Corrects s before v (set_from s rows v)
found s before left v rows simple is_left later frontier c = record {
  members = λ w e. ⊎_elim (λ i. ap (λ x. member x s.ids) (is_v w i) ∙ there) (λ g. and-left _ _ (used w g)) (xor_true _ _ e);
  input = λ w e. ⊎_elim (λ i. ap s.input (is_v w i) ∙ is_left.no_input (and-left _ _ i)) (λ g. not-true _ (and-left _ _ (and-right (member w s.ids) _ (used w g)))) (xor_true _ _ e);
  order = λ w e n. ⊎_elim (λ i. absurd (n (is_v w i))) (λ g. later w (and-left _ _ (used w g)) (not-true _ (and-right _ _ (and-right (member w s.ids) _ (used w g))))) (xor_true _ _ e);
  odd_order = λ w within e n. by_test (left w)
      (λ l. absurd (n (eqb-true w v (and-right (odd_in (s.plane v)) _ (sym (odd_left w l) ∙ e)))))
      (λ out. later w within out);
  inside = ap₂ (λ e b. xor (inside_in (s.plane v) && e) b) (eqb-self v) (gathered_may s left (usable s left) (target_of s v) rows v frontier.each unusable) ∙ alone (inside_in (s.plane v));
  odd_there = odd_left v is_left.there ∙ ap (λ e. odd_in (s.plane v) && e) (eqb-self v) ∙ sym (with_true (odd_in (s.plane v)) true refl);
}
  where
    there : member v s.ids ≡ true
    there = is_left.vertices v is_left.there

    is_v : (w : ℕ) → (inside_in (s.plane v) && eqb w v) ≡ true → w ≡ v
    is_v w i = eqb-true w v (and-right (inside_in (s.plane v)) _ i)

    used : (w : ℕ) → gathered (target_of s v) rows w ≡ true → usable s left w ≡ true
    used w g = by_test (usable s left w) (λ t. t) (λ f. absurd (true≢false (sym g ∙ gathered_may s left (usable s left) (target_of s v) rows w frontier.each f)))

    unusable : usable s left v ≡ false
    unusable = ap (λ b. member v s.ids && (not (s.input v) && not b)) is_left.there ∙ ap (λ b. member v s.ids && b) (and-false (not (s.input v))) ∙ and-false (member v s.ids)

    odd_left : (w : ℕ) → left w ≡ true → in_odd_neighbourhood s (set_from s rows v) w ≡ (odd_in (s.plane v) && eqb w v)
    odd_left w l =
        odd_with s v (inside_in (s.plane v)) (gathered (target_of s v) rows) w simple there
        ∙ ap (xor (inside_in (s.plane v) && s.adjacent v w)) (sums_up s left v rows w simple frontier c l)
        ∙ cancelled (inside_in (s.plane v) && s.adjacent v w) (odd_in (s.plane v) && eqb w v)

-- an XY vertex that is alone in a row
pub correctable_alone : (s : Seen) (left : ℕ → Bool) (v : ℕ) (r : Row) → s.plane v ≡ XY → IsRow s left (usable s left) r →
    ((w : ℕ) → member w r.columns.ids ≡ eqb w v) → IsCorrectable s left v
correctable_alone s left v r plane row only = record {
  set = is_in r.members.ids;
  members = row.members;
  sums = λ w l. sym (ap (λ b. b && in_odd_neighbourhood s (is_in r.members.ids) w) l) ∙ sym (row.columns w) ∙ only w
      ∙ sym (ap₂ (λ a b. xor (a && s.adjacent v w) (b && eqb w v)) (ap inside_in plane) (ap odd_in plane));
}

-- a vertex in its own set: its neighbours are a sum of rows when it goes
pub spanned : (s : Seen) (now : ℕ → Bool) (v : ℕ) (rows : List Row) → Simple s → now v ≡ false → inside_in (s.plane v) ≡ true →
    IsCorrectable s (with_one now v) v → IsFrontier s now now (usable s (with_one now v)) rows → IsSpanned s now rows v
spanned s now v rows simple gone inside c frontier w l =
    sym (near w l) ∙ spans_sets s now now (usable s (with_one now v)) rows c.set w simple frontier c.members l
    ∙ combined-same (in_odd_neighbourhood s c.set) (s.adjacent v) rows w (AreAll-weaker (λ r. now r.pivot ≡ true) (λ r. in_odd_neighbourhood s c.set r.pivot ≡ s.adjacent v r.pivot) rows (λ r p. near r.pivot p) frontier.pivots)
  where
    near : (x : ℕ) → now x ≡ true → in_odd_neighbourhood s c.set x ≡ s.adjacent v x
    near x there =
        let apart : eqb x v ≡ false = by_equal x v (λ t e. absurd (true≢false (sym there ∙ ap now e ∙ gone))) (λ f n. f) in
        c.sums x (ap (λ b. b || eqb x v) there) ∙ ap₂ (λ a b. xor (a && s.adjacent v x) (odd_in (s.plane v) && b)) inside apart
        ∙ ap (xor (s.adjacent v x)) (and-false (odd_in (s.plane v))) ∙ xor-false (s.adjacent v x)
