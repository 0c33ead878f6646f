-- The columns that the rows lack tell whether a vertex is correctable.
use Rattle.std.proofs.Common.{◌≡◌, refl, sym, ◌∙◌, ap, ap₂, subst, ℕ, suc, ◌<◌, Bool, true, false, not, ◌&&◌, eqb, List, [], ◌∷◌, ◌++◌, length, take, get_or}
use Rattle.std.proofs.Math.Seq.{take-suc}
use Rattle.std.proofs.lemmas.Bool.{true≢false}
use Rattle.zx_model.specs.Bits.{xor, member}
use Rattle.zx_calculus.specs.Graph.{Graph, Plane, XY, XZ, YZ, WellFormed, is_XY}
use Rattle.zx_calculus.proofs.Booleans.{and-false, xor-same}
use Rattle.zx_calculus.proofs.Ids.{by_test, by_equal, eqb-self, member-here, not-true}
use Rattle.zx_calculus.proofs.Splitting.{interior_of}
use Rattle.gflow_laws.specs.Seen.{Seen, seen, in_odd_neighbourhood}
use Rattle.gflow_laws.specs.Correcting.{Simple}
use Rattle.gflow_laws.specs.Flow.{inside_in, odd_in}
use Rattle.flow_find.specs.declared.row.Row.{Row}
use Rattle.flow_find.specs.Frontiers.{AreAll, combined, gathered, target_of, set_from, usable, IsLeft, IsCorrectable, IsFrontierOf}
use Rattle.flow_find.specs.Stuck.{after_those, HasSet}
use Rattle.flow_find.specs.Internal.Solving.{lacking, IsSolution, IsNeeded, IsMissed}
use Rattle.flow_find.proofs.Sums.{AreAll-weaker, AreAll-append, combined-same, spans_sets, odd-gathered, gathered_may}
use Rattle.flow_find.proofs.Changing.{IsWithout}
use Rattle.flow_find.proofs.Passing.{combined_outside}
use Rattle.flow_find.proofs.Finding.{correctable, found}
use Rattle.flow_find.proofs.Orders.{off_XY}

-- of a correctable vertex the rows have the whole target
has_target : (s : Seen) (left : ℕ → Bool) (rows : List Row) (v w : ℕ) → Simple s → IsFrontierOf s left rows → IsCorrectable s left v → left w ≡ true →
    combined (target_of s v) rows w ≡ target_of s v w
has_target s left rows v w simple frontier c l =
    combined-same (target_of s v) (in_odd_neighbourhood s c.set) rows w
    (AreAll-weaker (λ r. left r.pivot ≡ true) (λ r. target_of s v r.pivot ≡ in_odd_neighbourhood s c.set r.pivot) rows (λ r p. sym (c.sums r.pivot p)) frontier.pivots)
    ∙ sym (spans_sets s left left (usable s left) rows c.set w simple frontier c.members l)
    ∙ c.sums w l

pub missed : (s : Seen) (left : ℕ → Bool) (rows : List Row) (v : ℕ) → Simple s → IsFrontierOf s left rows → IsMissed s left rows v → IsCorrectable s left v → ⊥
missed s left rows v simple frontier m c = true≢false (sym m.lacked ∙ nothing m.column)
  where
    nothing : (w : ℕ) → lacking s left rows v w ≡ false
    nothing w = by_test (left w)
        (λ l. ap₂ xor (ap (λ b. b && target_of s v w) l) (has_target s left rows v w simple frontier c l) ∙ xor-same (target_of s v w))
        (λ f. ap₂ xor (ap (λ b. b && target_of s v w) f) (combined_outside s left (usable s left) (target_of s v) rows w frontier.each f))

equal_bits : (a b : Bool) → xor a b ≡ false → b ≡ a
equal_bits true true e = refl
equal_bits false b e = e
equal_bits true false e = absurd (true≢false e)

-- where the rows lack nothing, the members that they gather serve
pub solved : (s : Seen) (left : ℕ → Bool) (rows : List Row) (v : ℕ) (members : List ℕ) → IsFrontierOf s left rows → IsSolution s left rows v members → IsCorrectable s left v
solved s left rows v members frontier solution = record {
  set = gathered (target_of s v) rows;
  members = λ w g. by_test (usable s left w) (λ t. t)
      (λ f. absurd (true≢false (sym g ∙ gathered_may s left (usable s left) (target_of s v) rows w frontier.each f)));
  sums = λ w l. odd-gathered s left (usable s left) (target_of s v) rows w frontier.each l
      ∙ equal_bits (target_of s v w) (combined (target_of s v) rows w)
      (ap (λ b. xor (b && target_of s v w) (combined (target_of s v) rows w)) (sym l) ∙ solution.whole w);
}

-- a vertex among vertices that are left
pub is_left : (g : Graph) (left : ℕ → Bool) (v : ℕ) → WellFormed g → ((w : ℕ) → left w ≡ true → member w (seen g).ids ≡ true) → left v ≡ true → IsLeft (seen g) left v
is_left g left v formed vertices there = record {
  vertices = vertices;
  there = there;
  no_input = λ inside. (interior_of g v formed (off_XY ((seen g).plane v) inside)).no_input;
}

-- a vertex has a set where it is correctable by the rows
pub correctable_with : (s : Seen) (left : ℕ → Bool) (v : ℕ) → Simple s → IsLeft s left v → HasSet s left v → IsCorrectable s left v
correctable_with s left v simple is_left has =
    correctable s (after_those left) left v has.set simple is_left (λ w e. not-true (left w) e) has.corrects

abbrev pub set_of_rows : (s : Seen) (left : ℕ → Bool) (v : ℕ) (rows : List Row) → Simple s → IsLeft s left v → IsFrontierOf s left rows → IsCorrectable s left v → HasSet s left v
set_of_rows s left v rows simple is_left frontier c = record {
  set = set_from s rows v;
  corrects = found s (after_those left) left v rows simple is_left (λ w within out. ap not out) frontier c;
}

-- ---- a column that a vertex needs

none_with : (t : ℕ → Bool) (rows : List Row) (w : ℕ) → AreAll (IsWithout w) rows → combined t rows w ≡ false
none_with t [] w all = refl
none_with t (r ∷ rs) w all = ap₂ (λ a b. xor (t r.pivot && a) b) all.0 (none_with t rs w all.1) ∙ ap (λ b. xor b false) (and-false (t r.pivot))

pub lacks : (s : Seen) (left : ℕ → Bool) (rows : List Row) (v w : ℕ) → IsNeeded s left v w → AreAll (IsWithout w) rows → IsMissed s left rows v
lacks s left rows v w needed none = record { column = w; lacked = ap₂ xor needed (none_with (target_of s v) rows w none) }

is_XY-is : (p : Plane) → is_XY p ≡ true → p ≡ XY
is_XY-is XY e = refl
is_XY-is XZ e = absurd (true≢false (sym e))
is_XY-is YZ e = absurd (true≢false (sym e))

in_its_own : (p : Plane) → is_XY p ≡ false → inside_in p ≡ true
in_its_own XY e = absurd (true≢false e)
in_its_own XZ e = refl
in_its_own YZ e = refl

-- an XY vertex needs itself
pub needs_itself : (s : Seen) (left : ℕ → Bool) (v : ℕ) → is_XY (s.plane v) ≡ true → left v ≡ true → IsNeeded s left v v
needs_itself s left v xy there =
    let plane : s.plane v ≡ XY = is_XY-is (s.plane v) xy in
    ap₂ (λ a b. a && b) there (ap₂ (λ a b. xor (a && s.adjacent v v) (b && eqb v v)) (ap inside_in plane) (ap odd_in plane) ∙ eqb-self v)

-- any other needs each neighbour that is left
pub needs_neighbour : (s : Seen) (left : ℕ → Bool) (v w : ℕ) → Simple s → is_XY (s.plane v) ≡ false → left w ≡ true → s.adjacent v w ≡ true → IsNeeded s left v w
needs_neighbour s left v w simple off there near =
    let apart : eqb w v ≡ false = by_equal w v (λ t e. absurd (true≢false (sym near ∙ ap (s.adjacent v) e ∙ simple.no_loop v))) (λ f n. f) in
    ap₂ (λ a b. a && b) there
    (ap₂ (λ a b. xor (a && b) (odd_in (s.plane v) && eqb w v)) (in_its_own (s.plane v) off) near
    ∙ ap (λ b. xor true (odd_in (s.plane v) && b)) apart ∙ ap (xor true) (and-false (odd_in (s.plane v))))

-- one row more is without the column
pub without_more : (w : ℕ) (rows : List Row) (i : ℕ) (r : Row) → i < length rows → r ≡ get_or rows i r → member w r.columns.ids ≡ false →
    AreAll (IsWithout w) (take i rows) → AreAll (IsWithout w) (take (suc i) rows)
without_more w rows i r within is none before =
    subst (AreAll (IsWithout w)) (sym (take-suc rows i r within ∙ ap (λ x. take i rows ++ x ∷ []) (sym is)))
    (AreAll-append (IsWithout w) (take i rows) (r ∷ []) before (none, tt))

-- where they lack anything, they lack a column
pub some_lacked : (s : Seen) (left : ℕ → Bool) (rows : List Row) (v : ℕ) (columns : List ℕ) → (columns ≡ [] → ⊥) →
    ((w : ℕ) → member w columns ≡ lacking s left rows v w) → IsMissed s left rows v
some_lacked s left rows v [] some told = absurd (some refl)
some_lacked s left rows v (x ∷ xs) some told = record { column = x; lacked = sym (told x) ∙ member-here x xs }
