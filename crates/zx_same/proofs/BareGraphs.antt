-- The sum of a bare graph is the identity's map, up to a scalar.
use Rattle.std.proofs.Common.{◌≡◌, inl, inr, refl, sym, ◌∙◌, ap, ap₂, ℕ, Bool, true, false, not, ◌&&◌, ◌||◌, eqb, List, [], ◌∷◌, length, true≢false, arith}
use Rattle.std.specs.List.{list_all, zip}
use Rattle.std.proofs.lemmas.Bool.{eqb-true, or_cases}
use Rattle.zx_model.specs.Bits.{xor, member}
use Rattle.zx_model.specs.Number.{one, mul, root_power}
use Rattle.zx_model.specs.Proportional.{Proportional}
use Rattle.zx_model.specs.Sums.{sum_over}
use Rattle.zx_model.proofs.Powers.{root_power-zero}
use Rattle.zx_model.proofs.ProportionalLemmas.{proportional_of_scaled}
use Rattle.zx_model.proofs.Ring.{one-mul, one_nonzero}
use Rattle.zx_model.proofs.SumLemmas.{sum_over_same}
use Rattle.zx_calculus.specs.Graph.{XY, XZ, YZ, Plane, Kind, End, Graph, ids, kind_of, joined, neighbours, is_XY, is_interior, phase_of, end_vertices, in_order, different, WellFormed}
use Rattle.zx_calculus.specs.Sum.{factor, factor_in, graph_sum}
use Rattle.zx_calculus.proofs.Edges.{joined_comm}
use Rattle.zx_calculus.proofs.Forms.{sum_is_form}
use Rattle.zx_calculus.proofs.Ids.{and-left, and-right, not-true, by_test, eqb-self, member-different, member-there}
use Rattle.zx_calculus.proofs.Splitting.{distinct, all_at, absent_from, no_loop}
use Rattle.zx_calculus.proofs.Toggling.{member-neighbours}
use Rattle.zx_gates.specs.Maps.{amp}
use Rattle.circuit_laws.proofs.Wires.{vertex_product-one}
use Rattle.zx_same.specs.Bare.{is_bare_vertex, is_only_neighbour, is_wire_at_vertex, is_wire_along_edge, is_bare_wire, is_bare}
use Rattle.zx_same.proofs.WireSums.{IsAtVertex, IsAlongEdge, IsFirst, AreWires, HoldEnds, IsIdentity, summand, wires_sum}

-- ---- bits and lists
xor-not : (a b : Bool) → xor a b ≡ true → b ≡ not a
xor-not false true h = refl
xor-not true false h = refl
xor-not false false h = absurd (true≢false (sym h))
xor-not true true h = absurd (true≢false (sym h))

xor-same : (a b : Bool) → not (xor a b) ≡ true → a ≡ b
xor-same false false h = refl
xor-same true true h = refl
xor-same false true h = absurd (true≢false (sym h))
xor-same true false h = absurd (true≢false (sym h))

none_listed : (xs : List ℕ) → eqb (length xs) 0 ≡ true → (p : ℕ) → member p xs ≡ false
none_listed [] h p = refl
none_listed (x ∷ xs) h p = absurd (let e : length (x ∷ xs) ≡ 0 = eqb-true (length (x ∷ xs)) 0 h in omega arith)

one_listed : (xs : List ℕ) (v : ℕ) → eqb (length xs) 1 ≡ true → member v xs ≡ true → (p : ℕ) → member p xs ≡ eqb p v
one_listed [] v h there p = absurd (true≢false (sym there))
one_listed (x ∷ []) v h there p = or-false (eqb p x) ∙ ap (eqb p) (sym (eqb-true v x (sym (or-false (eqb v x)) ∙ there)))
  where
    or-false : (a : Bool) → (a || false) ≡ a
    or-false false = refl
    or-false true = refl
one_listed (x ∷ (y ∷ xs)) v h there p = absurd (let e : length (x ∷ (y ∷ xs)) ≡ 1 = eqb-true (length (x ∷ (y ∷ xs))) 1 h in omega arith)

-- ---- one wire of a graph
module _ (g : Graph) (w : WellFormed g) where
  only_neighbour : (u v : ℕ) → is_only_neighbour g u v ≡ true → (p : ℕ) → joined g.edges u p ≡ eqb p v
  only_neighbour u v only p =
      sym (member-neighbours g u p w)
      ∙ one_listed (neighbours g u) v (and-right (joined g.edges u v) (eqb (length (neighbours g u)) 1) only)
      (member-neighbours g u v w ∙ and-left (joined g.edges u v) (eqb (length (neighbours g u)) 1) only) p

  at_vertex : (i o : End) → is_wire_at_vertex g i o ≡ true → IsAtVertex (joined g.edges) i o
  at_vertex i o is =
      let none = eqb (length (neighbours g i.vertex)) 0 in
      let alike = not (xor i.hadamard o.hadamard) in
      let one : (eqb i.vertex o.vertex && none) ≡ true = and-left (eqb i.vertex o.vertex && none) alike is in
      let same : i.vertex ≡ o.vertex = eqb-true i.vertex o.vertex (and-left (eqb i.vertex o.vertex) none one) in
      record {
        same = same;
        alone = λ p. sym (member-neighbours g o.vertex p w)
            ∙ ap (λ u. member p (neighbours g u)) (sym same)
            ∙ none_listed (neighbours g i.vertex) (and-right (eqb i.vertex o.vertex) none one) p;
        marks = xor-same i.hadamard o.hadamard (and-right (eqb i.vertex o.vertex && none) alike is);
      }

  record Edge (i o : End) : Type 0 where
    pub next : is_only_neighbour g i.vertex o.vertex ≡ true
    pub back : is_only_neighbour g o.vertex i.vertex ≡ true
    pub no_output : member i.vertex (end_vertices g.outputs) ≡ false
    pub no_input : member o.vertex (end_vertices g.inputs) ≡ false
    pub marks : xor i.hadamard o.hadamard ≡ true

  edge_of : (i o : End) → is_wire_along_edge g i o ≡ true → Edge i o
  edge_of i o is =
      let a = is_only_neighbour g i.vertex o.vertex in
      let b = is_only_neighbour g o.vertex i.vertex in
      let c = not (member i.vertex (end_vertices g.outputs)) in
      let d = not (member o.vertex (end_vertices g.inputs)) in
      let e = xor i.hadamard o.hadamard in
      let one : (((a && b) && c) && d) ≡ true = and-left (((a && b) && c) && d) e is in
      let two : ((a && b) && c) ≡ true = and-left ((a && b) && c) d one in
      let three : (a && b) ≡ true = and-left (a && b) c two in
      record {
        next = and-left a b three;
        back = and-right a b three;
        no_output = not-true (member i.vertex (end_vertices g.outputs)) (and-right (a && b) c two);
        no_input = not-true (member o.vertex (end_vertices g.inputs)) (and-right ((a && b) && c) d one);
        marks = and-right (((a && b) && c) && d) e is;
      }

  along_edge : (i o : End) → Edge i o → IsAlongEdge (joined g.edges) i o
  along_edge i o e = record {
    apart = λ same. true≢false (sym (only_neighbour i.vertex o.vertex e.next o.vertex ∙ eqb-self o.vertex)
        ∙ ap (λ u. joined g.edges u o.vertex) same ∙ no_loop g o.vertex w);
    next = only_neighbour i.vertex o.vertex e.next;
    back = only_neighbour o.vertex i.vertex e.back;
    marks = xor-not i.hadamard o.hadamard e.marks;
  }

  -- who isn't among all isn't among some
  absent : (all some : List ℕ) (u : ℕ) → ((v : ℕ) → member v some ≡ true → member v all ≡ true) → member u all ≡ false → member u some ≡ false
  absent all some u within gone = by_test (member u some) (λ t. absurd (true≢false (sym (within u t) ∙ gone))) (λ f. f)

  later : (v : ℕ) (vs all : List ℕ) → ((u : ℕ) → member u (v ∷ vs) ≡ true → member u all ≡ true) → (u : ℕ) → member u vs ≡ true → member u all ≡ true
  later v vs all within u there = within u (member-there u v vs there)

  wires : (ins outs : List End) → list_all (is_bare_wire g) (zip ins outs) ≡ true → length ins ≡ length outs
      → in_order different (end_vertices ins) ≡ true → in_order different (end_vertices outs) ≡ true
      → ((u : ℕ) → member u (end_vertices ins) ≡ true → member u (end_vertices g.inputs) ≡ true)
      → ((u : ℕ) → member u (end_vertices outs) ≡ true → member u (end_vertices g.outputs) ≡ true)
      → AreWires (joined g.edges) ins outs
  wires [] [] bare as_many once once' within within' = tt
  wires [] (o ∷ outs) bare as_many once once' within within' = absurd (omega arith)
  wires (i ∷ ins) [] bare as_many once once' within within' = absurd (omega arith)
  wires (i ∷ ins) (o ∷ outs) bare as_many once once' within within' = (
    first,
    wires ins outs (and-right (is_bare_wire g (i, o)) (list_all (is_bare_wire g) (zip ins outs)) bare) (omega arith)
        (and-right (list_all (different i.vertex) (end_vertices ins)) (in_order different (end_vertices ins)) once)
        (and-right (list_all (different o.vertex) (end_vertices outs)) (in_order different (end_vertices outs)) once')
        (later i.vertex (end_vertices ins) (end_vertices g.inputs) within) (later o.vertex (end_vertices outs) (end_vertices g.outputs) within'),
  )
    where
      input_in : member i.vertex (end_vertices ins) ≡ false
      input_in = member-different i.vertex (end_vertices ins) (and-left (list_all (different i.vertex) (end_vertices ins)) (in_order different (end_vertices ins)) once)

      output_out : member o.vertex (end_vertices outs) ≡ false
      output_out = member-different o.vertex (end_vertices outs) (and-left (list_all (different o.vertex) (end_vertices outs)) (in_order different (end_vertices outs)) once')

      first : IsFirst (joined g.edges) i o ins outs
      first = elim (or_cases (is_wire_at_vertex g i o) (is_wire_along_edge g i o) (and-left (is_bare_wire g (i, o)) (list_all (is_bare_wire g) (zip ins outs)) bare)) [
        | inl is ↦
            let v = at_vertex i o is in
            record {
              wire = inl v;
              input_in = input_in;
              input_out = ap (λ u. member u (end_vertices outs)) v.same ∙ output_out;
              output_in = ap (λ u. member u (end_vertices ins)) (sym v.same) ∙ input_in;
              output_out = output_out;
            }
        | inr is ↦
            let e = edge_of i o is in
            record {
              wire = inr (along_edge i o e);
              input_in = input_in;
              input_out = absent (end_vertices g.outputs) (end_vertices outs) i.vertex (later o.vertex (end_vertices outs) (end_vertices g.outputs) within') e.no_output;
              output_in = absent (end_vertices g.inputs) (end_vertices ins) o.vertex (later i.vertex (end_vertices ins) (end_vertices g.inputs) within) e.no_input;
              output_out = output_out;
            }
      ]

-- ---- the vertices
factor-zero : (kind : Kind) (b : Bool) → is_XY kind.plane ≡ true → kind.phase ≡ 0 → factor kind b ≡ one
factor-zero kind b plane phase = at kind.plane b plane
  where
    at : (p : Plane) (b : Bool) → is_XY p ≡ true → factor_in p kind.phase b ≡ one
    at XY false h = refl
    at XY true h = ap root_power phase ∙ root_power-zero
    at XZ b h = absurd (true≢false (sym h))
    at YZ b h = absurd (true≢false (sym h))

-- ---- the graph
module _ (g : Graph) (w : WellFormed g) (bare : is_bare g ≡ true) where
  abbrev vertices : Bool
  vertices = list_all (is_bare_vertex g) (ids g.vertices)

  abbrev as_many : Bool
  as_many = eqb (length g.inputs) (length g.outputs)

  abbrev straight : Bool
  straight = list_all (is_bare_wire g) (zip g.inputs g.outputs)

  counted : (vertices && as_many) ≡ true
  counted = and-left (vertices && as_many) straight bare

  vertices_bare : list_all (is_bare_vertex g) (ids g.vertices) ≡ true
  vertices_bare = and-left vertices as_many counted

  at : (u : ℕ) → member u (ids g.vertices) ≡ true → is_bare_vertex g u ≡ true
  at u there = all_at (is_bare_vertex g) (ids g.vertices) u vertices_bare there

  has_end : (u : ℕ) → member u (ids g.vertices) ≡ true → (member u (end_vertices g.inputs) || member u (end_vertices g.outputs)) ≡ true
  has_end u there = twice (member u (end_vertices g.inputs) || member u (end_vertices g.outputs)) (and-left (not (is_interior g u)) (eqb (phase_of g u) 0) (at u there))
    where
      twice : (b : Bool) → not (not b) ≡ true → b ≡ true
      twice true h = refl
      twice false h = absurd (true≢false (sym h))

  ones : (u : ℕ) (b : Bool) → member u (ids g.vertices) ≡ true → factor (kind_of g.vertices u) b ≡ one
  ones u b there =
      factor-zero (kind_of g.vertices u) b
      (elim (or_cases (member u (end_vertices g.inputs)) (member u (end_vertices g.outputs)) (has_end u there)) [
        | inl input ↦ all_at (λ p. is_XY (kind_of g.vertices p).plane) (end_vertices g.inputs) u w.inputs.at_XY input
        | inr output ↦ all_at (λ p. is_XY (kind_of g.vertices p).plane) (end_vertices g.outputs) u w.outputs.at_XY output
      ])
      (eqb-true (phase_of g u) 0 (and-right (not (is_interior g u)) (eqb (phase_of g u) 0) (at u there)))

  holds : HoldEnds (ids g.vertices) g.inputs g.outputs
  holds u =
      by_test (member u (ids g.vertices)) (λ t. t ∙ sym (has_end u t))
      (λ f. f ∙ sym (ap₂ (λ p q. p || q) (absent_from (ids g.vertices) (end_vertices g.inputs) u w.inputs.there f)
      (absent_from (ids g.vertices) (end_vertices g.outputs) u w.outputs.there f)))

  identity : IsIdentity (length g.inputs) (λ x y. sum_over (ids g.vertices) (summand (joined g.edges) (ids g.vertices) g.inputs g.outputs x y))
  identity =
      wires_sum (joined g.edges) g.inputs g.outputs (ids g.vertices) (joined_comm g.edges) (distinct g w)
      (wires g w g.inputs g.outputs (and-right (vertices && as_many) straight bare)
      (eqb-true (length g.inputs) (length g.outputs) (and-right vertices as_many counted))
      w.inputs.one_each w.outputs.one_each (λ u t. t) (λ u t. t))
      holds

  sum_summand : (x y : List Bool) → graph_sum g x y ≡ sum_over (ids g.vertices) (summand (joined g.edges) (ids g.vertices) g.inputs g.outputs x y)
  sum_summand x y =
      sum_is_form g x y w
      ∙ sum_over_same (ids g.vertices) _ _
      (λ label. ap (λ p. mul p (summand (joined g.edges) (ids g.vertices) g.inputs g.outputs x y label)) (vertex_product-one g.vertices label (distinct g w) ones)
      ∙ one-mul _)

  pub bare_identity : Proportional (length g.inputs) (length g.inputs) (graph_sum g) (amp [])
  bare_identity =
      proportional_of_scaled (length g.inputs) (length g.inputs) (graph_sum g) (amp []) one identity.factor one_nonzero identity.nonzero
      (λ x y lx ly. one-mul (graph_sum g x y) ∙ sum_summand x y ∙ identity.equal x y lx ly)
