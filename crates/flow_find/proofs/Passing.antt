-- A vertex more that may be a member, and a vertex that goes.
use Rattle.std.proofs.Common.{◌≡◌, refl, sym, ◌∙◌, ap, ap₂, subst, ⊎_elim, ℕ, Bool, true, false, not, ◌&&◌, ◌||◌, eqb, List, [], ◌∷◌}
use Rattle.std.proofs.lemmas.Bool.{true≢false}
use Rattle.zx_model.specs.Bits.{xor, member}
use Rattle.zx_calculus.proofs.Booleans.{and-false, and-true, xor-false, xor-same, or-true, or-false}
use Rattle.zx_calculus.proofs.Ids.{by_test, by_equal}
use Rattle.zx_calculus.specs.Graph.{Plane, XY, XZ, YZ, is_XY}
use Rattle.gflow_laws.specs.Seen.{Seen, in_odd_neighbourhood}
use Rattle.gflow_laws.specs.Flow.{is_in, inside_in}
use Rattle.gflow_laws.specs.Correcting.{Simple}
use Rattle.gflow_laws.proofs.Linear.{masked-same, masked-of-xor, masked-one}
use Rattle.gflow_laws.proofs.Lists.{is_in-one}
use Rattle.gflow_laws.proofs.Corrects.{xor_true}
use Rattle.flow_find.specs.declared.row.Row.{Row}
use Rattle.flow_find.specs.Frontiers.{AreAll, combined, gathered, around, usable, IsRow, IsFrontier, IsFrontierOf, IsCorrectable, IsSpanned, with_one}
use Rattle.flow_find.specs.Internal.Lacking.{IsShort}
use Rattle.flow_find.specs.Internal.Rows.{IsSum, IsPut}
use Rattle.flow_find.proofs.Sums.{combined_alike, odd-gathered, gathered_may}
use Rattle.flow_find.proofs.Finding.{spanned}
use Rattle.flow_find.proofs.Changing.{put_keeps, with_may, frontier_alike}

-- no row has a column outside what is left
pub combined_outside : (s : Seen) (left may t : ℕ → Bool) (rows : List Row) (w : ℕ) → AreAll (IsRow s left may) rows → left w ≡ false → combined t rows w ≡ false
combined_outside s left may t [] w each out = refl
combined_outside s left may t (r ∷ rs) w each out =
    ap₂ (λ c x. xor (t r.pivot && c) x) (each.0.columns w ∙ ap (λ b. b && in_odd_neighbourhood s (is_in r.members.ids) w) out) (combined_outside s left may t rs w each.1 out)
    ∙ ap (λ b. xor b false) (and-false (t r.pivot))

-- the row of u, with the rows added at whose pivots u has neighbours
abbrev pub near : Seen → ℕ → ℕ → Bool
near s u = around s u true false

near_is : (s : Seen) (u p : ℕ) → near s u p ≡ s.adjacent u p
near_is s u p = xor-false (s.adjacent u p)

pub inserted : (s : Seen) (left may : ℕ → Bool) (u : ℕ) (start row : Row) (old new : List Row) → Simple s → member u s.ids ≡ true →
    ((w : ℕ) → member w start.columns.ids ≡ (left w && s.adjacent u w)) → start.members.ids ≡ u ∷ [] → IsSum (near s u) old start row → IsPut row old new →
    IsFrontier s left left may old → IsFrontier s left left (with_one may u) new
inserted s left may u start row old new simple there columns one sum put frontier =
    put_keeps s left left (with_one may u) row old new (λ w l. l) is_row (with_may s left may u old frontier.each) frontier.pivots short put
  where
    at_left : (w : ℕ) → left w ≡ true → member w row.columns.ids ≡ xor (s.adjacent u w) (combined (s.adjacent u) old w)
    at_left w l = sum.columns w ∙ ap₂ xor (columns w ∙ ap (λ b. b && s.adjacent u w) l) (combined_alike (near s u) (s.adjacent u) old w (near_is s u))

    first : (w : ℕ) → member w row.members.ids ≡ xor (eqb w u) (gathered (near s u) old w)
    first w = sum.members w ∙ ap (λ b. xor b (gathered (near s u) old w)) (ap (member w) one ∙ is_in-one u w)

    sums : (w : ℕ) → left w ≡ true → in_odd_neighbourhood s (is_in row.members.ids) w ≡ xor (s.adjacent u w) (combined (s.adjacent u) old w)
    sums w l =
        masked-same (s.adjacent w) (s.adjacent w) s.ids (is_in row.members.ids) (λ x. xor (eqb x u) (gathered (near s u) old x)) (λ x _. ap (λ b. s.adjacent w x && b) (first x))
        ∙ masked-of-xor (s.adjacent w) s.ids (λ x. eqb x u) (gathered (near s u) old)
        ∙ ap₂ xor (masked-one (s.adjacent w) s.ids u simple.distinct there ∙ simple.symmetric w u)
        (odd-gathered s left may (near s u) old w frontier.each l ∙ combined_alike (near s u) (s.adjacent u) old w (near_is s u))

    is_row : IsRow s left (with_one may u) row
    is_row = record {
      columns = λ w. by_test (left w)
          (λ l. at_left w l ∙ sym (ap (λ b. b && in_odd_neighbourhood s (is_in row.members.ids) w) l ∙ sums w l))
          (λ out. sum.columns w ∙ ap₂ xor (columns w ∙ ap (λ b. b && s.adjacent u w) out) (combined_outside s left may (near s u) old w frontier.each out)
          ∙ sym (ap (λ b. b && in_odd_neighbourhood s (is_in row.members.ids) w) out));
      members = λ w e. ⊎_elim
          (λ t. ap (λ b. may w || b) t ∙ or-true (may w))
          (λ g. by_test (may w) (λ m. ap (λ b. b || eqb w u) m) (λ f. absurd (true≢false (sym g ∙ gathered_may s left may (near s u) old w frontier.each f))))
          (xor_true (eqb w u) (gathered (near s u) old w) (sym (first w) ∙ e));
    }

    short : IsShort s left (with_one may u) old row.columns.ids
    short = record {
      times = λ x. eqb x u;
      lacks = λ x w m l. by_equal x u
          (λ t e. ap (λ y. xor (s.adjacent y w) (combined (s.adjacent y) old w)) e ∙ sym (ap (λ b. b && member w row.columns.ids) t ∙ at_left w l))
          (λ f n. ap (λ b. xor b (combined (s.adjacent x) old w)) (frontier.spans x w (sym (or-false (may x)) ∙ ap (λ b. may x || b) (sym f) ∙ m) l)
          ∙ xor-same (combined (s.adjacent x) old w) ∙ sym (ap (λ b. b && member w row.columns.ids) f));
    }

-- v may be a member where it has no input, and all that were usable still are
now_usable : (s : Seen) (left : ℕ → Bool) (v w : ℕ) → member v s.ids ≡ true → s.input v ≡ false → left v ≡ false →
    with_one (usable s (with_one left v)) v w ≡ usable s left w
now_usable s left v w there none gone = by_equal w v
    (λ t e. ap (λ b. usable s (with_one left v) w || b) t ∙ or-true (usable s (with_one left v) w)
    ∙ sym (ap (usable s left) e ∙ ap₂ (λ a b. a && b) there (ap₂ (λ a b. not a && not b) none gone)))
    (λ f n. ap (λ b. (member w s.ids && (not (s.input w) && not (left w || b))) || b) f
    ∙ or-false (member w s.ids && (not (s.input w) && not (left w || false)))
    ∙ ap (λ b. member w s.ids && (not (s.input w) && not b)) (or-false (left w)))

still_usable : (s : Seen) (left : ℕ → Bool) (v w : ℕ) → s.input v ≡ true → usable s (with_one left v) w ≡ usable s left w
still_usable s left v w has_it = by_equal w v
    (λ t e. ap (usable s (with_one left v)) e ∙ no_input (with_one left v) ∙ sym (ap (usable s left) e ∙ no_input left))
    (λ f n. ap (λ b. member w s.ids && (not (s.input w) && not (left w || b))) f ∙ ap (λ b. member w s.ids && (not (s.input w) && not b)) (or-false (left w)))
  where
    no_input : (l : ℕ → Bool) → usable s l v ≡ false
    no_input l = ap (λ b. member v s.ids && (not b && not (l v))) has_it ∙ and-false (member v s.ids)

pub passed_in : (s : Seen) (left : ℕ → Bool) (v : ℕ) (rows : List Row) → member v s.ids ≡ true → s.input v ≡ false → left v ≡ false →
    IsFrontier s left left (with_one (usable s (with_one left v)) v) rows → IsFrontierOf s left rows
passed_in s left v rows there none gone frontier = frontier_alike s left (with_one (usable s (with_one left v)) v) (usable s left) rows (λ w. now_usable s left v w there none gone) frontier

pub passed_by : (s : Seen) (left : ℕ → Bool) (v : ℕ) (rows : List Row) → s.input v ≡ true →
    IsFrontier s left left (usable s (with_one left v)) rows → IsFrontierOf s left rows
passed_by s left v rows has_it frontier = frontier_alike s left (usable s (with_one left v)) (usable s left) rows (λ w. still_usable s left v w has_it) frontier

-- one that is spanned already
spanned_too : (s : Seen) (left may : ℕ → Bool) (v : ℕ) (rows : List Row) → IsSpanned s left rows v → IsFrontier s left left may rows → IsFrontier s left left (with_one may v) rows
spanned_too s left may v rows is_spanned frontier = record {
  each = with_may s left may v rows frontier.each;
  pivots = frontier.pivots;
  spans = λ u w m l. by_equal u v
      (λ t e. subst (λ x. s.adjacent x w ≡ combined (s.adjacent x) rows w) (sym e) (is_spanned w l))
      (λ f n. frontier.spans u w (sym (or-false (may u)) ∙ ap (λ b. may u || b) (sym f) ∙ m) l);
}

-- no row is put for v: it has an input, or is in its own set
pub passed_without : (s : Seen) (left : ℕ → Bool) (v : ℕ) (rows : List Row) → Simple s → member v s.ids ≡ true → left v ≡ false →
    (is_XY (s.plane v) && not (s.input v)) ≡ false → IsCorrectable s (with_one left v) v →
    IsFrontier s left left (usable s (with_one left v)) rows → IsFrontierOf s left rows
passed_without s left v rows simple there gone no_row c frontier = by_test (s.input v)
    (λ t. passed_by s left v rows t frontier)
    (λ f. passed_in s left v rows there f gone (spanned_too s left (usable s (with_one left v)) v rows
    (spanned s left v rows simple gone (in_its_own (s.plane v) (sym (and-true (is_XY (s.plane v))) ∙ ap (λ b. is_XY (s.plane v) && not b) (sym f) ∙ no_row))
    c frontier) frontier))
  where
    in_its_own : (p : Plane) → is_XY p ≡ false → inside_in p ≡ true
    in_its_own XY e = absurd (true≢false e)
    in_its_own XZ e = refl
    in_its_own YZ e = refl
