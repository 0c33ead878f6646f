-- A graph in which no move is left is reduced, and a reduced graph has few vertices.
use Rattle.std.proofs.Common.{◌≡◌, ◌≢◌, ◌⊎◌, inl, inr, refl, sym, ◌∙◌, ap, ap₂, subst, ℕ, suc, ◌+◌, ◌≤◌, Bool, true, false, not, ◌&&◌, ◌||◌, eqb, List, [], ◌∷◌, length, eq-eqb, true≢false, arith}
use Rattle.std.specs.List.{list_all}
use Rattle.zx_model.specs.Phase.{is_odd, IsQuarterTurn}
use Rattle.zx_model.specs.Bits.{member, one_if}
use Rattle.zx_model.proofs.Phases.{even_phases}
use Rattle.zx_calculus.specs.Graph.{Plane, XY, XZ, YZ, Vertex, End, Graph, ids, end_vertices, is_XY, kind_of, plane_of, phase_of, joined, neighbours, IsVertex, Interior, WellFormed, is_interior}
use Rattle.zx_calculus.specs.Counts.{even_interior, odd_phases, not_XY, XY_without_output}
use Rattle.zx_calculus.specs.Reduced.{IsReduced}
use Rattle.zx_calculus.specs.Moves.{IsHalfSpider, IsStuck, HasInnerNeighbours}
use Rattle.zx_calculus.proofs.Booleans.{or-true}
use Rattle.zx_calculus.proofs.Ids.{by_test, by_equal, or-left, or-right, not-true, eqb-self, Distinct}
use Rattle.zx_calculus.proofs.Vertices.{phase-kind_of}
use Rattle.zx_calculus.proofs.Splitting.{distinct, interior_of, off_XY, all_at}
use Rattle.zx_calculus.proofs.Results.{interior_from, interior_true}
use Rattle.zx_calculus.proofs.Programs.{neighbour}
use Rattle.zx_calculus.proofs.Counting.{YZ_apart}
use Rattle.zx_calculus.proofs.Deletions.{half_turns_even}
use Rattle.zx_calculus.proofs.CountLemmas.{count, count-cons, count_at_most}

-- ---- bounds
count-all : (vs : List Vertex) → count (λ p k. true) vs ≡ length vs
count-all [] = refl
count-all (v ∷ vs) = count-cons (λ p k. true) v vs ∙ ap (λ n. 1 + n) (count-all vs) ∙ omega arith

count-none : (vs : List Vertex) → count (λ p k. false) vs ≡ 0
count-none [] = refl
count-none (v ∷ vs) = count-cons (λ p k. false) v vs ∙ ap (λ n. 0 + n) (count-none vs)

pub counts_within : (g : Graph) → WellFormed g → even_interior g + odd_phases g ≤ length g.vertices
counts_within g w =
    within _ _ _ _ (count_at_most (λ p k. is_interior g p && not (is_odd k.phase)) (λ p k. is_odd k.phase) (λ p k. true) (λ p k. false) g.vertices (distinct g w)
    (λ p m. one_of (is_interior g p) (is_odd (kind_of g.vertices p).phase))) (count-all g.vertices) (count-none g.vertices)
  where
    one_of : (i o : Bool) → one_if (i && not o) + one_if o ≤ 1
    one_of true true = omega arith
    one_of true false = omega arith
    one_of false true = omega arith
    one_of false false = omega arith

    within : (a b c d : ℕ) → a ≤ b + c → b ≡ d → c ≡ 0 → a ≤ d
    within a b c d e f g = omega arith

-- at most one vertex has an id, so at most as many are listed as the list is long
count_one : (x : ℕ) (vs : List Vertex) → Distinct (ids vs) → count (λ p k. eqb p x) vs ≤ 1
count_one x [] d = omega arith
count_one x (v ∷ vs) d =
    by_equal v.id x
    (λ t e. at_most (count (λ p k. eqb p x) (v ∷ vs)) (count (λ p k. eqb p x) vs) (count-cons (λ p k. eqb p x) v vs ∙ ap (λ b. one_if b + count (λ p k. eqb p x) vs) t) (none vs (ap (λ y. member y (ids vs)) (sym e) ∙ d.0)))
    (λ f n. subst (λ m. m ≤ 1) (sym (count-cons (λ p k. eqb p x) v vs ∙ ap (λ b. one_if b + count (λ p k. eqb p x) vs) f ∙ omega arith)) (count_one x vs d.1))
  where
    none : (vs : List Vertex) → member x (ids vs) ≡ false → count (λ p k. eqb p x) vs ≡ 0
    none [] h = refl
    none (v ∷ vs) h =
        count-cons (λ p k. eqb p x) v vs
        ∙ ap₂ (λ b n. one_if b + n) (by_equal v.id x (λ t e. absurd (true≢false (sym (eq-eqb x v.id (sym e)) ∙ or-left _ _ h))) (λ f n. f)) (none vs (or-right _ _ h))

    at_most : (a b : ℕ) → a ≡ 1 + b → b ≡ 0 → a ≤ 1
    at_most a b e f = omega arith

count_listed : (xs : List ℕ) (vs : List Vertex) → Distinct (ids vs) → count (λ p k. member p xs) vs ≤ length xs
count_listed [] vs d = subst (λ n. n ≤ 0) (sym (count-none vs)) (omega arith)
count_listed (x ∷ xs) vs d =
    together _ _ _ _ (count_at_most (λ p k. eqb p x || member p xs) (λ p k. false) (λ p k. eqb p x) (λ p k. member p xs) vs d
    (λ p m. either (eqb p x) (member p xs))) (count_one x vs d) (count_listed xs vs d)
  where
    either : (a b : Bool) → one_if (a || b) + 0 ≤ one_if a + one_if b
    either true true = omega arith
    either true false = omega arith
    either false true = omega arith
    either false false = omega arith

    together : (a b c d : ℕ) → a + b ≤ c + d → c ≤ 1 → d ≤ length xs → a ≤ suc (length xs)
    together a b c d e f g = omega arith

pub length-places : (ends : List End) → length (end_vertices ends) ≡ length ends
length-places [] = refl
length-places (e ∷ es) = ap (λ n. suc n) (length-places es)

-- a choice by a plane, with what it says
by_plane : {P : Type 0} (plane : Plane) → (plane ≡ XY → P) → (plane ≡ XZ → P) → (plane ≡ YZ → P) → P
by_plane XY f g h = f refl
by_plane XZ f g h = g refl
by_plane YZ f g h = h refl

-- an XY vertex without an output has an input or an odd phase
pub reduced_few : (g : Graph) → WellFormed g → IsReduced g → XY_without_output g + not_XY g ≤ length g.inputs + odd_phases g
reduced_few g w r =
    few _ _ _ _ (count_at_most (λ p k. is_XY k.plane && not (member p (end_vertices g.outputs))) (λ p k. not (is_XY k.plane)) (λ p k. member p (end_vertices g.inputs)) (λ p k. is_odd k.phase)
    g.vertices (distinct g w) each)
    (count_listed (end_vertices g.inputs) g.vertices (distinct g w)) (length-places g.inputs)
  where
    at_least : (i b : Bool) → b ≡ true → 1 ≤ one_if i + one_if b
    at_least true true e = omega arith
    at_least false true e = omega arith
    at_least i false e = absurd (true≢false (sym e))

    few : (a b c d : ℕ) → a ≤ b + c → b ≤ d → d ≡ length g.inputs → a ≤ length g.inputs + c
    few a b c d e f h = omega arith

    by_ends : (p : ℕ) → IsVertex g p → (xy i o : Bool) → is_XY (plane_of g p) ≡ xy → member p (end_vertices g.inputs) ≡ i → member p (end_vertices g.outputs) ≡ o
        → one_if (xy && not o) + one_if (not xy) ≤ one_if i + one_if (is_odd (phase_of g p))
    by_ends p m true i true x y z = omega arith
    by_ends p m true true false x y z = omega arith
    by_ends p m true false false x y z = at_least false _ (r.odd p m (record { no_input = y; no_output = z }))
    by_ends p m false i o x y z = at_least i _ (r.odd p m (interior_of g p w x))

    each : (p : ℕ) → IsVertex g p → one_if (is_XY (plane_of g p) && not (member p (end_vertices g.outputs))) + one_if (not (is_XY (plane_of g p)))
        ≤ one_if (member p (end_vertices g.inputs)) + one_if (is_odd (phase_of g p))
    each p m = by_ends p m (is_XY (plane_of g p)) (member p (end_vertices g.inputs)) (member p (end_vertices g.outputs)) refl refl refl

-- ---- no move is left
not-false : (b : Bool) → not b ≡ false → b ≡ true
not-false true h = refl
not-false false h = absurd (true≢false h)

-- where a test fails somewhere in a list
some_fails : (t : ℕ → Bool) (xs : List ℕ) → list_all t xs ≡ false → (p : ℕ) × (member p xs ≡ true) × (t p ≡ false)
some_fails t [] h = absurd (true≢false h)
some_fails t (x ∷ xs) h =
    by_test (t x)
    (λ e. let later = some_fails t xs (rw e at h) in (later.0, ap (λ b. eqb later.0 x || b) later.1 ∙ or-true (eqb later.0 x), later.2))
    (λ f. (x, ap (λ b. b || member x xs) (eqb-self x), f))

module _ (g : Graph) (w : WellFormed g) (stuck : IsStuck g) (near : HasInnerNeighbours g) where
  -- a spider of half turns pivots with an interior neighbour, or at the boundary
  no_half_spider : (u : ℕ) → IsHalfSpider g u → ⊥
  no_half_spider u spider =
      by_test (list_all (λ p. not (is_interior g p)) (neighbours g u))
      (λ all. let v = near u spider.there spider.interior spider.plane in
      stuck.no_boundary_pivot u v.0 (record {
        spider = spider;
        adjacent = v.1;
        boundary = λ p e i.
            true≢false (sym (interior_true g p i) ∙ not-true _ (all_at (λ p. not (is_interior g p)) (neighbours g u) p all (sym (neighbour g w u p) ∙ e)));
      }))
      (λ some. let v = some_fails (λ p. not (is_interior g p)) (neighbours g u) some in
      stuck.no_inner_pivot u v.0 (record { spider = spider; adjacent = neighbour g w u v.0 ∙ v.1; interior = interior_from g v.0 (not-false (is_interior g v.0) v.2) }))

  no_even : (u : ℕ) → IsVertex g u → Interior g u → is_odd (phase_of g u) ≡ false → ⊥
  no_even u there i even =
      by_plane (plane_of g u)
      (λ e. elim (even_phases (phase_of g u) (phase-kind_of u g.vertices w.phases_below_a_turn) even) [
        | inl half ↦ no_half_spider u (record { there = there; interior = i; plane = e; phase = half })
        | inr quarter ↦ stuck.no_quarter_spider u (record { there = there; interior = i; plane = e; phase = quarter })
      ])
      (λ e. stuck.no_XZ u (record { there = there; plane = e }))
      (λ e. elim (even_phases (phase_of g u) (phase-kind_of u g.vertices w.phases_below_a_turn) even) [
        | inl half ↦ stuck.no_deletion u (record { there = there; plane = YZ_apart (plane_of g u) e; phase = half })
        | inr quarter ↦ stuck.no_quarter_gadget u (record { there = there; plane = e; phase = quarter })
      ])

  pub stuck_reduced : IsReduced g
  stuck_reduced = record {
    odd = λ u there i. by_test (is_odd (phase_of g u)) (λ t. t) (λ f. absurd (no_even u there i f));
    planes = λ u there i. by_plane (plane_of g u) (λ e. inl e) (λ e. absurd (stuck.no_XZ u (record { there = there; plane = e }))) (λ e. inr e);
    apart = λ u v there there_too plane plane_too.
        by_test (joined g.edges u v)
        (λ t. absurd (stuck.no_gadget_pair u v (record { there = there; there_too = there_too; plane = plane; plane_too = plane_too; adjacent = t }))) (λ f. f);
    two_neighbours = λ u there plane.
        two (length (neighbours g u)) (λ e. stuck.no_lone_gadget u (record { there = there; plane = plane; legs = e }))
        (λ e. stuck.no_single_gadget u (record { there = there; plane = plane; legs = e }));
    no_twins = λ u v there there_too differ plane plane_too e.
        stuck.no_twins u v (record { there = there; there_too = there_too; different = differ; plane = plane; plane_too = plane_too; equal_neighbours = e });
  }
    where
      two : (n : ℕ) → (n ≡ 0 → ⊥) → (n ≡ 1 → ⊥) → 2 ≤ n
      two n none one = omega arith

-- ---- and the other way: in a reduced graph there is none
quarter_even : (k : ℕ) → IsQuarterTurn k → is_odd k ≡ false
quarter_even k (inl e) = ap is_odd e
quarter_even k (inr e) = ap is_odd e

module _ (g : Graph) (w : WellFormed g) (r : IsReduced g) where
  not_even : (u : ℕ) → IsVertex g u → Interior g u → is_odd (phase_of g u) ≡ false → ⊥
  not_even u there i even = true≢false (sym (r.odd u there i) ∙ even)

  gone : (u : ℕ) → plane_of g u ≢ XY → Interior g u
  gone u n = interior_of g u w (off_XY (plane_of g u) n)

  no_spider : (u : ℕ) → IsHalfSpider g u → ⊥
  no_spider u s = not_even u s.there s.interior (half_turns_even (phase_of g u) s.phase)

  pub reduced_stuck : IsStuck g
  reduced_stuck = record {
    no_deletion = λ u m. not_even u m.there (gone u m.plane) (half_turns_even (phase_of g u) m.phase);
    no_quarter_gadget = λ u m. not_even u m.there (gone u (YZ_apart (plane_of g u) m.plane)) (quarter_even (phase_of g u) m.phase);
    no_XZ = λ u m. no_plane (plane_of g u) m.plane (r.planes u m.there (gone u (λ e. xz_apart (sym m.plane ∙ e))));
    no_quarter_spider = λ u m. not_even u m.there m.interior (quarter_even (phase_of g u) m.phase);
    no_inner_pivot = λ u v m. no_spider u m.spider;
    no_boundary_pivot = λ u v m. no_spider u m.spider;
    no_gadget_pair = λ u v m. true≢false (sym m.adjacent ∙ r.apart u v m.there m.there_too m.plane m.plane_too);
    no_lone_gadget = λ u m. few _ 0 (r.two_neighbours u m.there m.plane) m.legs (omega arith);
    no_single_gadget = λ u m. few _ 1 (r.two_neighbours u m.there m.plane) m.legs (omega arith);
    no_twins = λ u v m. r.no_twins u v m.there m.there_too m.different m.plane m.plane_too m.equal_neighbours;
  }
    where
      xz_apart : XZ ≡ XY → ⊥
      xz_apart e = cc

      no_plane : (plane : Plane) → plane ≡ XZ → (plane ≡ XY) ⊎ (plane ≡ YZ) → ⊥
      no_plane plane e (inl f) = xz_apart (sym e ∙ f)
      no_plane plane e (inr f) = let h : XZ ≡ YZ = sym e ∙ f in cc

      few : (a b : ℕ) → 2 ≤ a → a ≡ b → b ≤ 1 → ⊥
      few a b h e f = omega arith
