-- What a circuit is made of a graph that grew of another one: some run leads there but for names, and the scalars are
-- multiplied.
use Rattle.std.proofs.Common.{◌≡◌, ◌≤◌, ◌+◌, ◌*◌, length, sym, ◌∙◌, subst, arith, le_refl, le_trans, List, map}
use Rattle.std.specs.List.{All}
use Rattle.zx_model.specs.Proportional.{Proportional}
use Rattle.zx_model.specs.Scalar.{IsScaled, product_of_scalars}
use Rattle.zx_model.specs.declared.scalar.Scalar.{Scalar}
use Rattle.zx_model.proofs.ProportionalLemmas.{proportional_sym, proportional_trans}
use Rattle.zx_model.proofs.Scalars.{scaled_proportional}
use Rattle.zx_calculus.specs.Counts.{odd_phases}
use Rattle.zx_calculus.specs.Graph.{Graph}
use Rattle.zx_calculus.specs.Sum.{graph_sum}
use Rattle.zx_calculus.proofs.Steps.{run_odd, run_proportional}
use Rattle.gflow_laws.specs.Flow.{Correction}
use Rattle.zx_gates.specs.Circuit.{Circuit, IsOnQubits, gate_odd_phases, gate_limit}
use Rattle.zx_gates.specs.Maps.{amp}
use Rattle.zx_gates.specs.Passes.{Implements, Preserves}
use Rattle.zx_gates.proofs.Passing.{implements_more, implements_scaled}
use Rattle.circuit_graph.specs.Translation.{translated, translated_table}
use Rattle.circuit_graph.specs.Internal.Runs.{Translates}
use Rattle.circuit_graph.proofs.Whole.{translated_map}
use Rattle.circuit_graph.proofs.Existing.{translates}
use Rattle.growing_laws.proofs.GrownGraphs.{reached_odd, reached_reduced}
use Rattle.zx_extract.proofs.SimplifiedLemmas.{within_bound}
use Rattle.open_graph.specs.OpenGraph.{most_vertices_in_memory}
use Rattle.graph_rewrites.specs.Steps.{step_named}
use Rattle.graph_rewrites.specs.declared.step.Step as named
use Rattle.zx_reduce.specs.Grown.{GrowsTo, most_grown_root2}
use Rattle.zx_reduce.specs.Reducing.{Reduces}
use Rattle.zx_reduce.specs.Scaling.{most_reduced_root2}
use Rattle.zx_simplify.specs.Circuits.{IsSimplified, SimplifiesTo}
use Rattle.zx_simplify.specs.Extracting.{Extracts}
use Rattle.zx_simplify.specs.Scaling.{most_circuit_root2, most_simplified_root2}

abbrev pub simplified_whole : (read : Circuit) (h : Graph) (table : List Correction) (s : Scalar) (made : Circuit) (t product : Scalar) →
    All (IsOnQubits read.qubits) read.gates → GrowsTo read h table s → Extracts h made t → product ≡ product_of_scalars s t → IsSimplified read made product
simplified_whole read h table s made t product on g e is =
    let n = read.qubits in
    let gates = made.gates in
    let start : Translates read (record { graph = translated read; table = translated_table read }) = translates read on in
    let end = g.reaches.graph in
    let most = 2 * most_vertices_in_memory + gate_limit in
    let extracted = subst (λ m. Implements m (graph_sum h) (odd_phases h) most made t) g.outputs e.kept in
    let within : Implements n (amp read.gates) (odd_phases h) most_circuit_root2 made product =
    implements_scaled most_grown_root2 s g.scaled g.small extracted is (omega arith) in
    let whole : Preserves most_circuit_root2 read made product = implements_more within (le_trans g.odd start.odd) (le_refl most_circuit_root2) in
    record {
      steps = g.reaches.steps;
      end = end;
      run = g.reaches.run;
      reduced = reached_reduced (translated read) h start.well_formed g.well_formed g.reaches g.reduced;
      kept = whole;
      same_map = proportional_trans n n (graph_sum end) (graph_sum (translated read)) (amp gates)
          (proportional_sym n n (graph_sum (translated read)) (graph_sum end)
          (subst (λ m. Proportional n m (graph_sum (translated read)) (graph_sum end)) start.outputs
          (subst (λ m. Proportional m (length (translated read).outputs) (graph_sum (translated read)) (graph_sum end)) start.inputs
          (run_proportional (translated read) g.reaches.steps end start.well_formed g.reaches.run))))
          (proportional_trans n n (graph_sum (translated read)) (amp read.gates) (amp gates)
          (translated_map read (record { graph = translated read; table = translated_table read }) start)
          (scaled_proportional n n (amp read.gates) (amp gates) product whole.scaled));
      odd = subst (λ k. gate_odd_phases gates ≤ k) (sym (reached_odd (translated read) h start.well_formed g.well_formed g.reaches)) e.kept.odd;
      fewer = run_odd (translated read) g.reaches.steps end start.well_formed g.reaches.run;
      read_odd = start.odd;
      few_gates = within_bound h n (odd_phases (translated read)) (length gates) (length gates) g.well_formed g.reduced g.inputs g.outputs g.odd
          e.few_gates (le_refl (length gates));
      tidy = e.tidy;
    }

-- what a circuit is made of a graph with a flow
pub graph_whole : (g h : Graph) (table : List Correction) (steps : List named.Step) (s : Scalar) (made : Circuit) (t product : Scalar) →
    length g.inputs ≡ length g.outputs → Reduces g h table steps s → Extracts h made t → product ≡ product_of_scalars s t →
    SimplifiesTo g (map step_named steps) h made product
graph_whole g h table steps s made t product ends r e is =
    let n = length g.outputs in
    let scaled = subst (λ m. IsScaled m n (graph_sum g) s (graph_sum h)) ends r.scalar in
    let rest = subst (λ m. Implements m (graph_sum h) (odd_phases h) (2 * most_vertices_in_memory + gate_limit) made t) r.outputs e.kept in
    let whole : Implements n (graph_sum g) (odd_phases h) most_simplified_root2 made product =
    implements_scaled most_reduced_root2 s scaled r.small rest is (omega arith) in
    record {
      run = r.run;
      reduced = r.reduced;
      well_formed = r.well_formed;
      reduced_map = r.map;
      inputs = r.inputs;
      outputs = r.outputs;
      kept = implements_more whole r.odd (le_refl most_simplified_root2);
      odd = e.kept.odd;
      fewer = r.odd;
      few_gates = within_bound h n (odd_phases g) (length made.gates) (length made.gates) r.well_formed r.reduced (r.inputs ∙ ends) r.outputs r.odd e.few_gates
          (le_refl (length made.gates));
      tidy = e.tidy;
    }
