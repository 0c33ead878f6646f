-- The last vertex of those that are left of an order.
use Rattle.std.proofs.Common.{◌≡◌, refl, sym, ◌∙◌, ap, ap₂, subst, ℕ, suc, ◌<◌, Bool, true, false, not, ◌&&◌, ◌||◌, eqb, List, [], ◌∷◌, ◌++◌, length, take, drop, drop-cons, get_or, cond}
use Rattle.std.proofs.lemmas.Bool.{true≢false}
use Rattle.std.proofs.Math.Seq.{take-suc}
use Rattle.std.proofs.lemmas.List.{take-append-drop}
use Rattle.zx_model.specs.Bits.{member}
use Rattle.zx_calculus.proofs.Booleans.{and-true, or-true, or-false}
use Rattle.zx_calculus.proofs.Ids.{by_equal, eqb-self, member-append, or-left, or-right, and-left, not-true}
use Rattle.zx_calculus.proofs.Splitting.{interior_of}
use Rattle.zx_calculus.specs.Graph.{Graph, Plane, XY, XZ, YZ, is_XY, Distinct, WellFormed}
use Rattle.gflow_laws.specs.Seen.{Seen, seen}
use Rattle.gflow_laws.specs.Flow.{Correction, order_of, set_of, is_in, is_later, IsFlow, Corrects, inside_in}
use Rattle.gflow_laws.specs.Tables.{with_sets}
use Rattle.gflow_laws.specs.Correcting.{FlowAsFunctions}
use Rattle.gflow_laws.proofs.Flows.{Flows-from, IsFlowOf-from}
use Rattle.gflow_laws.proofs.Tables.{order_of-with_sets, set_of-with_sets, Corrects-same}
use Rattle.gflow_laws.proofs.Views.{Simple-seen}
use Rattle.flow_find.specs.declared.row.Row.{Row}
use Rattle.move_laws.specs.Orders.{HasFlowAlong}
use Rattle.flow_find.specs.Frontiers.{set_from, IsLeft, IsCorrectable, IsFrontierOf, with_one}
use Rattle.flow_find.specs.Internal.Rows.{IsPassable}
use Rattle.flow_find.proofs.Finding.{correctable, found}

neither : (a b c : Bool) → b ≡ not c → (not a && b) ≡ not (a || c)
neither true b c e = refl
neither false b c e = e

-- after a vertex come those that aren't among the ones up to it
pub later_than : (xs : List ℕ) (v : ℕ) (ys : List ℕ) (w : ℕ) → member v xs ≡ false → is_later (xs ++ v ∷ ys) v w ≡ not (member w (xs ++ v ∷ []))
later_than [] v ys w out = ap (λ b. not (eqb w v) && (b || is_later ys v w)) (eqb-self v) ∙ and-true (not (eqb w v)) ∙ ap not (sym (or-false (eqb w v)))
later_than (x ∷ xs) v ys w out =
    ap (λ b. not (eqb w x) && (b || is_later (xs ++ v ∷ ys) v w)) (or-left _ _ out)
    ∙ neither (eqb w x) (is_later (xs ++ v ∷ ys) v w) (member w (xs ++ v ∷ [])) (later_than xs v ys w (or-right _ _ out))

pub Distinct-take : (xs : List ℕ) (v : ℕ) (ys : List ℕ) → Distinct (xs ++ v ∷ ys) → member v xs ≡ false
Distinct-take [] v ys d = refl
Distinct-take (x ∷ xs) v ys d =
    let apart : (member x xs || member x (v ∷ ys)) ≡ false = sym (member-append x xs (v ∷ ys)) ∙ d.0 in
    let ne : eqb v x ≡ false = by_equal v x (λ t e. absurd (true≢false (sym (ap (λ b. b || member x ys) (ap (eqb x) e ∙ eqb-self x)) ∙ or-right _ _ apart))) (λ f n. f) in
    ap₂ (λ a b. a || b) ne (Distinct-take xs v ys d.1)

pub Distinct-drop : (xs : List ℕ) (v : ℕ) (ys : List ℕ) → Distinct (xs ++ v ∷ ys) → member v ys ≡ false
Distinct-drop [] v ys d = d.0
Distinct-drop (x ∷ xs) v ys d = Distinct-drop xs v ys d.1

-- the order so far: those up to the place are left, and the sets of those from it on are found
pub record IsSoFar (g : Graph) (order : List ℕ) (i : ℕ) (left : ℕ → Bool) (rows : List Row) (table : List Correction) : Type 0 where
  pub is_order : order_of table ≡ order
  pub marks : (w : ℕ) → left w ≡ member w (take i order)
  pub frontier : IsFrontierOf (seen g) left rows
  pub corrected : (v : ℕ) → member v (drop i order) ≡ true → Corrects (seen g) (is_later order) v (is_in (set_of table v))

-- what a flow along the order says of it
pub record IsOrder (g : Graph) (order : List ℕ) : Type 0 where
  pub each_once : Distinct order
  pub non_outputs : (v : ℕ) → member v order ≡ (member v (seen g).ids && not ((seen g).output v))
  pub sets : ℕ → List ℕ
  pub corrects : (v : ℕ) → member v order ≡ true → Corrects (seen g) (is_later order) v (is_in (sets v))

pub is_order : (g : Graph) (order : List ℕ) → HasFlowAlong g order → IsOrder g order
is_order g order h =
    let f : FlowAsFunctions (seen g) h.table = Flows-from (seen g) h.table h.flow in
    let P : List ℕ → Type 0 = λ l. IsOrder g l in
    subst P h.along record { each_once = f.each_once; non_outputs = f.non_outputs; sets = set_of h.table; corrects = f.corrects }

-- a place of the order
pub record IsPlace (order : List ℕ) (i v : ℕ) : Type 0 where
  pub up_to : take (suc i) order ≡ take i order ++ v ∷ []
  pub from : drop i order ≡ v ∷ drop (suc i) order
  pub whole : order ≡ take i order ++ v ∷ drop (suc i) order

pub is_place : (order : List ℕ) (i v : ℕ) → i < length order → v ≡ get_or order i v → IsPlace order i v
is_place order i v within is =
    let back : drop i order ≡ v ∷ drop (suc i) order = drop-cons order i v within ∙ ap (λ x. x ∷ drop (suc i) order) (sym is) in
    record {
      up_to = take-suc order i v within ∙ ap (λ x. take i order ++ x ∷ []) (sym is);
      from = back;
      whole = sym (take-append-drop i order) ∙ ap (λ l. take i order ++ l) back;
    }

pub fresh_there : (order : List ℕ) (i v : ℕ) → Distinct order → i < length order → v ≡ get_or order i v → member v (take i order) ≡ false
fresh_there order i v distinct within is = Distinct-take (take i order) v (drop (suc i) order) (subst Distinct (is_place order i v within is).whole distinct)

pub off_XY : (plane : Plane) → inside_in plane ≡ true → is_XY plane ≡ false
off_XY XY e = absurd (true≢false (sym e))
off_XY XZ e = refl
off_XY YZ e = refl

module _ (g : Graph) (order : List ℕ) (formed : WellFormed g) (h : IsOrder g order) (i v : ℕ) (place : IsPlace order i v) where
  pub fresh : member v (take i order) ≡ false
  fresh = Distinct-take (take i order) v (drop (suc i) order) (subst Distinct place.whole h.each_once)

  pub listed : member v order ≡ true
  listed = ap (member v) place.whole ∙ member-append v (take i order) (v ∷ drop (suc i) order)
      ∙ ap (λ b. member v (take i order) || (b || member v (drop (suc i) order))) (eqb-self v) ∙ or-true (member v (take i order))

  pub is_live : member v (seen g).ids ≡ true
  is_live = and-left _ _ (sym (h.non_outputs v) ∙ listed)

  later : (w : ℕ) → is_later order v w ≡ not (member w (take (suc i) order))
  later w = ap (λ l. is_later l v w) place.whole ∙ later_than (take i order) v (drop (suc i) order) w fresh ∙ ap (λ l. not (member w l)) (sym place.up_to)

  at_end : member v (take (suc i) order) ≡ true
  at_end = ap (member v) place.up_to ∙ member-append v (take i order) (v ∷ []) ∙ ap (λ b. member v (take i order) || (b || false)) (eqb-self v) ∙ or-true (member v (take i order))

  pub last_left : (left : ℕ → Bool) → ((w : ℕ) → left w ≡ member w (take (suc i) order)) → left v ≡ true
  last_left left marks = marks v ∙ at_end

  in_take : (w : ℕ) → member w (take (suc i) order) ≡ true → member w (seen g).ids ≡ true
  in_take w t = and-left _ _ (sym (h.non_outputs w) ∙ ap (member w) (sym (take-append-drop (suc i) order)) ∙ member-append w (take (suc i) order) (drop (suc i) order) ∙ ap (λ b. b || member w (drop (suc i) order)) t)

  no_input_inside : inside_in ((seen g).plane v) ≡ true → (seen g).input v ≡ false
  no_input_inside inside = (interior_of g v formed (off_XY ((seen g).plane v) inside)).no_input

  is_left : (left : ℕ → Bool) → ((w : ℕ) → left w ≡ member w (take (suc i) order)) → IsLeft (seen g) left v
  is_left left marks = record { vertices = λ w l. in_take w (sym (marks w) ∙ l); there = marks v ∙ at_end; no_input = no_input_inside }

  pub correctable_at : (left : ℕ → Bool) → ((w : ℕ) → left w ≡ member w (take (suc i) order)) → IsCorrectable (seen g) left v
  correctable_at left marks =
      correctable (seen g) (is_later order) left v (is_in (h.sets v)) (Simple-seen g formed) (is_left left marks)
      (λ w e. marks w ∙ not-true _ (sym (later w) ∙ e)) (h.corrects v listed)

  -- the set that the rows give corrects the vertex
  pub found_at : (left : ℕ → Bool) (rows : List Row) → ((w : ℕ) → left w ≡ member w (take (suc i) order)) → IsFrontierOf (seen g) left rows →
      Corrects (seen g) (is_later order) v (set_from (seen g) rows v)
  found_at left rows marks frontier =
      found (seen g) (is_later order) left v rows (Simple-seen g formed) (is_left left marks) (λ w within out. later w ∙ ap not (sym (marks w) ∙ out)) frontier (correctable_at left marks)

  -- it goes
  pub one_less : (left now : ℕ → Bool) → ((w : ℕ) → left w ≡ member w (take (suc i) order)) → ((w : ℕ) → now w ≡ (not (eqb w v) && left w)) →
      (w : ℕ) → now w ≡ member w (take i order)
  one_less left now marks cleared w = cleared w ∙ ap (λ b. not (eqb w v) && b) (marks w ∙ ap (member w) place.up_to ∙ member-append w (take i order) (v ∷ [])) ∙ by_equal w v
      (λ t e. ap (λ b. not b && (member w (take i order) || (b || false))) t ∙ sym (ap (λ x. member x (take i order)) e ∙ fresh))
      (λ f n. ap (λ b. not b && (member w (take i order) || (b || false))) f ∙ or-false (member w (take i order)))

  -- one set more is found
  pub corrected_more : (left : ℕ → Bool) (rows : List Row) (table : List Correction) (members : List ℕ) → ((w : ℕ) → member w (order_of table) ≡ member w order) →
      ((w : ℕ) → left w ≡ member w (take (suc i) order)) → IsFrontierOf (seen g) left rows → ((w : ℕ) → member w members ≡ set_from (seen g) rows v w) →
      ((u : ℕ) → member u (drop (suc i) order) ≡ true → Corrects (seen g) (is_later order) u (is_in (set_of table u))) →
      (u : ℕ) → member u (drop i order) ≡ true → Corrects (seen g) (is_later order) u (is_in (set_of (with_sets (λ y set. cond (eqb y v) members set) table) u))
  corrected_more left rows table members same marks frontier is old u there = by_equal u v
      (λ t e. subst (λ x. Corrects (seen g) (is_later order) x (is_in (set_of (with_sets (λ y set. cond (eqb y v) members set) table) x))) (sym e)
      (Corrects-same (seen g) (is_later order) v (set_from (seen g) rows v) _ (λ w. sym (ap (λ l. is_in l w) (set_of-with_sets (λ y set. cond (eqb y v) members set) table v (same v ∙ listed) ∙ ap (λ b. cond b members (set_of table v)) (eqb-self v)) ∙ is w))
      (found_at left rows marks frontier)))
      (λ f n. let behind : member u (drop (suc i) order) ≡ true = sym (ap (λ b. b || member u (drop (suc i) order)) f) ∙ sym (ap (member u) place.from) ∙ there in
      let in_order : member u (order_of table) ≡ true = same u ∙ ap (member u) (sym (take-append-drop (suc i) order)) ∙ member-append u (take (suc i) order) (drop (suc i) order) ∙ ap (λ b. member u (take (suc i) order) || b) behind ∙ or-true _ in
      Corrects-same (seen g) (is_later order) u (is_in (set_of table u)) _ (λ w. sym (ap (λ l. is_in l w) (set_of-with_sets (λ y set. cond (eqb y v) members set) table u in_order ∙ ap (λ b. cond b members (set_of table u)) f))) (old u behind))

  -- one place further back
  pub one_more : (left now : ℕ → Bool) (rows new : List Row) (table : List Correction) (members : List ℕ) → IsSoFar g order (suc i) left rows table →
      ((w : ℕ) → member w members ≡ set_from (seen g) rows v w) → ((w : ℕ) → now w ≡ (not (eqb w v) && left w)) → IsFrontierOf (seen g) now new →
      IsSoFar g order i now new (with_sets (λ u set. cond (eqb u v) members set) table)
  one_more left now rows new table members so_far is cleared frontier = record {
    is_order = order_of-with_sets (λ u set. cond (eqb u v) members set) table ∙ so_far.is_order;
    marks = one_less left now so_far.marks cleared;
    frontier = frontier;
    corrected = corrected_more left rows table members (λ w. ap (member w) so_far.is_order) so_far.marks so_far.frontier is so_far.corrected;
  }

-- what was left before the vertex went
pub still_left : (s : Seen) (left now : ℕ → Bool) (v : ℕ) (rows : List Row) → left v ≡ true → ((w : ℕ) → now w ≡ (not (eqb w v) && left w)) →
    IsFrontierOf s left rows → IsCorrectable s left v → IsPassable s now v rows
still_left s left now v rows there cleared frontier c = subst (λ l. IsFrontierOf s l rows × IsCorrectable s l v) (λ i w. same w i) (frontier, c)
  where
    same : (w : ℕ) → left w ≡ with_one now v w
    same w = by_equal w v
        (λ t e. ap left e ∙ there ∙ sym (ap (λ b. now w || b) t ∙ or-true (now w)))
        (λ f n. sym (ap₂ (λ b c. b || c) (cleared w ∙ ap (λ b. not b && left w) f) f ∙ or-false (left w)))

-- at the start of the order all sets are found
pub whole_flow : (g : Graph) (order : List ℕ) (left : ℕ → Bool) (rows : List Row) (table : List Correction) → IsOrder g order → IsSoFar g order 0 left rows table → IsFlow g table
whole_flow g order left rows table h so_far =
    let same : order ≡ order_of table = sym so_far.is_order in
    IsFlowOf-from (seen g) table record {
      each_once = subst Distinct same h.each_once;
      non_outputs = λ v. ap (member v) so_far.is_order ∙ h.non_outputs v;
      corrects = λ v there. subst (λ l. Corrects (seen g) (is_later l) v (is_in (set_of table v))) same (so_far.corrected v (sym (ap (member v) so_far.is_order) ∙ there));
    }
