-- What is left of a circuit that isn't seen to be the identity, and of two.
use Rattle.std.proofs.Common.{◌≡◌, refl, sym, ◌∙◌, ap, subst, ℕ, Bool, true, false, not, ◌&&◌, [], length, true≢false, ◌==◌, ◌≤◌, le_trans}
use Rattle.std.specs.List.{All, list_all, zip}
use Rattle.zx_model.specs.Bits.{member}
use Rattle.zx_model.specs.Proportional.{Proportional}
use Rattle.zx_model.specs.Scalar.{product_of_scalars}
use Rattle.zx_model.proofs.ProportionalLemmas.{proportional_sym, proportional_trans}
use Rattle.zx_model.proofs.Scalars.{scaled_proportional}
use Rattle.zx_calculus.specs.Graph.{Graph, WellFormed, ids, is_interior, phase_of}
use Rattle.zx_calculus.specs.Counts.{odd_phases}
use Rattle.zx_calculus.specs.Sum.{graph_sum}
use Rattle.zx_calculus.proofs.Ids.{by_test}
use Rattle.zx_calculus.proofs.Results.{interior_from, interior_true}
use Rattle.zx_calculus.proofs.Splitting.{all_at}
use Rattle.zx_calculus.proofs.Steps.{run_kept, run_inputs_kept}
use Rattle.zx_gates.specs.Circuit.{Circuit, IsCircuit, IsOnQubits, gate_odd_phases}
use Rattle.zx_gates.specs.Maps.{amp}
use Rattle.circuit_graph.specs.Translation.{translated, translated_table}
use Rattle.circuit_graph.specs.Internal.Runs.{Translates}
use Rattle.circuit_graph.proofs.Existing.{translates}
use Rattle.growing_laws.specs.Renaming.{IsRenamed}
use Rattle.growing_laws.proofs.Renamed.{inside}
use Rattle.growing_laws.proofs.SameButNames.{named_back}
use Rattle.zx_extract.specs.Simplified.{gate_bound}
use Rattle.zx_simplify.specs.Circuits.{IsSimplified}
use Rattle.zx_simplify.proofs.Whole.{simplified_whole}
use Rattle.zx_identities.specs.Inverse.{undone_by}
use Rattle.zx_same.specs.Bare.{is_bare, is_bare_vertex, is_bare_wire, has_only_ends}
use Rattle.zx_same.specs.Comparing.{IsLeft}
use Rattle.zx_same.specs.Internal.Simplifying.{Leaves}
use Rattle.zx_same.proofs.Comparisons.{at_n, bare_seen, bound_rises, odd-undone}
use Rattle.zx_same.proofs.Deciding.{decided, identity_is_bare, none_odd}
use Rattle.zx_same.proofs.IdentityGraphs.{all_of}

-- where no vertex of a graph is interior, none is under other names
named_only : (to back : ℕ → ℕ) (g h : Graph) → WellFormed g → WellFormed h → IsRenamed to back g h → has_only_ends g ≡ true → has_only_ends h ≡ true
named_only to back g h wg wh r only = all_of (λ v. not (is_interior h v)) (ids h.vertices) at
  where
    at : (u : ℕ) → member u (ids h.vertices) ≡ true → not (is_interior h u) ≡ true
    at u there =
        by_test (is_interior h u)
        (λ t. absurd (true≢false (sym (all_at (λ v. not (is_interior g v)) (ids g.vertices) (back u) only (r.there_back u there))
        ∙ ap not (interior_true g (back u) (inside back to h g wh wg (named_back to back g h wg r) u there (interior_from h u t))))))
        (λ f. ap not f)

-- a bare graph has only ends
bare_only : (g : Graph) → is_bare g ≡ true → has_only_ends g ≡ true
bare_only g bare = all_of (λ v. not (is_interior g v)) (ids g.vertices) at
  where
    first : (a b : Bool) → (a && b) ≡ true → a ≡ true
    first true b e = refl
    first false b e = e

    at : (u : ℕ) → member u (ids g.vertices) ≡ true → not (is_interior g u) ≡ true
    at u there =
        first (not (is_interior g u)) (phase_of g u == 0)
        (all_at (is_bare_vertex g) (ids g.vertices) u
        (first (list_all (is_bare_vertex g) (ids g.vertices)) (length g.inputs == length g.outputs) (first _ (list_all (is_bare_wire g) (zip g.inputs g.outputs)) bare))
        there)

module _ (c left : Circuit) (on : All (IsOnQubits c.qubits) c.gates) (l : Leaves c left) where
  abbrev whole : IsSimplified c left (product_of_scalars l.times l.scalar)
  whole = simplified_whole c l.graph l.table l.times left l.scalar (product_of_scalars l.times l.scalar) on l.grown l.extracted refl

  pub left_map : Proportional c.qubits c.qubits (amp c.gates) (amp left.gates)
  left_map = scaled_proportional c.qubits c.qubits (amp c.gates) (amp left.gates) (product_of_scalars l.times l.scalar) whole.kept.scaled

  pub left_qubits : left.qubits ≡ c.qubits
  left_qubits = whole.kept.qubits

  graph_map : Proportional c.qubits c.qubits (amp c.gates) (graph_sum l.graph)
  graph_map = scaled_proportional c.qubits c.qubits (amp c.gates) (graph_sum l.graph) l.times l.grown.scaled

  abbrev end : Graph
  end = l.grown.reaches.graph

  start : Translates c (record { graph = translated c; table = translated_table c })
  start = translates c on

  end_formed : WellFormed end
  end_formed = run_kept (translated c) l.grown.reaches.steps end start.well_formed l.grown.reaches.run

  end_only : has_only_ends end ≡ true → has_only_ends l.graph ≡ true
  end_only = named_only l.grown.reaches.to l.grown.reaches.back end l.graph end_formed l.grown.well_formed l.grown.reaches.renamed

  -- if it were just wires, so would be the graph that grew
  end_bare : is_bare end ≡ true → is_bare l.graph ≡ true
  end_bare bare =
      let n = c.qubits in
      let g = l.graph in
      let identity = bare_seen c end end_formed (run_inputs_kept (translated c) l.grown.reaches.steps end l.grown.reaches.run ∙ start.inputs)
      (proportional_trans n n (amp c.gates) (amp left.gates) (graph_sum end) left_map (proportional_sym n n (graph_sum end) (amp left.gates) whole.same_map)) bare in
      identity_is_bare g l.grown.well_formed (end_only (bare_only end bare)) (l.grown.inputs ∙ sym l.grown.outputs)
      (at_n (length g.inputs) n n (graph_sum g) (amp []) (sym l.grown.inputs) (sym l.grown.inputs)
      (proportional_trans n n (graph_sum g) (amp c.gates) (amp []) (proportional_sym n n (amp c.gates) (graph_sum g) graph_map) identity))

-- of the one circuit followed by the inverse of the other
pub is_left : (a b both left : Circuit) → a.qubits ≡ b.qubits → IsCircuit b → both ≡ undone_by a b → All (IsOnQubits both.qubits) both.gates → Leaves both left →
    IsLeft a b left
is_left a b both left same is undone on leaves =
    let c = undone_by a b in
    let here : All (IsOnQubits c.qubits) c.gates = subst (λ (x : Circuit). All (IsOnQubits x.qubits) x.gates) undone on in
    let l : Leaves c left = subst (λ x. Leaves x left) undone leaves in
    let made = whole c left here l in
    record {
      steps = l.grown.reaches.steps;
      end = l.grown.reaches.graph;
      is_left = record {
        run = made.run;
        reduced = made.reduced;
        not_bare = by_test (is_bare l.grown.reaches.graph) (λ t. absurd (true≢false (sym (end_bare c left here l t) ∙ l.not_bare))) (λ f. f);
        decides = λ only one_map. true≢false
            (sym (decided a b l.graph same is l.grown.well_formed l.grown.inputs l.grown.outputs (graph_map c left here l) (end_only c left here l only) one_map)
            ∙ l.not_bare);
        qubits = made.kept.qubits;
        map = left_map c left here l;
        tidy = made.tidy;
        some = l.some;
        odd = subst (λ k. gate_odd_phases left.gates ≤ k) (odd-undone a b is) made.kept.odd;
        few = subst (λ k. length left.gates ≤ gate_bound a.qubits k) (odd-undone a b is)
            (bound_rises a.qubits a.qubits (odd_phases (translated c)) (gate_odd_phases c.gates) (length left.gates) refl made.read_odd made.few_gates);
      };
    }

-- circuits without odd phases are told apart
pub none_left : (a b both left : Circuit) → a.qubits ≡ b.qubits → IsCircuit b → both ≡ undone_by a b → All (IsOnQubits both.qubits) both.gates → Leaves both left →
    gate_odd_phases a.gates ≡ 0 → gate_odd_phases b.gates ≡ 0 → Proportional a.qubits a.qubits (amp a.gates) (amp b.gates) → ⊥
none_left a b both left same is undone on leaves first second one_map =
    let c = undone_by a b in
    let here : All (IsOnQubits c.qubits) c.gates = subst (λ (x : Circuit). All (IsOnQubits x.qubits) x.gates) undone on in
    let l : Leaves c left = subst (λ x. Leaves x left) undone leaves in
    let only = none_odd a b l.graph is l.grown.reduced (le_trans l.grown.odd (start c left here l).odd) first second in
    true≢false (sym (decided a b l.graph same is l.grown.well_formed l.grown.inputs l.grown.outputs (graph_map c left here l) only one_map) ∙ l.not_bare)
