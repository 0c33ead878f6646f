-- From the circuit to its graph, and on.
use Rattle.std.proofs.Common.{ℕ, ◌<◌, ◌≤◌, ◌+◌, ◌*◌, length, map, sym, ◌∙◌, subst, le_refl, le_trans, arith}
use Rattle.zx_model.specs.Scalar.{IsScaled}
use Rattle.zx_model.specs.declared.scalar.Scalar.{Scalar}
use Rattle.zx_model.proofs.Scalars.{scaled_proportional}
use Rattle.zx_calculus.specs.Counts.{odd_phases}
use Rattle.zx_calculus.specs.Graph.{Graph}
use Rattle.zx_calculus.specs.Steps.{IsRun}
use Rattle.zx_calculus.specs.Sum.{graph_sum}
use Rattle.zx_gates.specs.Circuit.{gate_limit, gate_odd_phases}
use Rattle.zx_gates.specs.Maps.{amp}
use Rattle.zx_gates.specs.Passes.{Implements}
use Rattle.zx_gates.proofs.Passing.{implements_more, implements_scaled}
use Rattle.graph_rewrites.specs.Steps.{step_named}
use Rattle.zx_simplify.specs.Scaling.{most_simplified_root2}
use Rattle.zx_same.specs.Internal.Simplifying.{most_left_root2}
use Rattle.zx_same.proofs.Comparisons.{from_circuit, bound_rises}
use Rattle.zx_same.proofs.comparing.simplify_as_graph.Goals as goal

-- how large the scalars of the translation and of its simplification are
fits : (gates : ℕ) → gates < gate_limit → 4 * gates + most_simplified_root2 ≤ most_left_root2
fits gates few = omega (arith, few)

pub returns : goal.returns
returns c =
    let read = c.in_ok-read.ensures in
    let f = read.translation in
    let r = c.in_ok-made.ensures in
    let circuit = c.args.circuit.now in
    let start = c.in_ok-read.read.graph.graph in
    let made = c.in_ok-made.made in
    let n = circuit.qubits in
    let o = length start.outputs in
    let scaled = subst (λ (s : Scalar). IsScaled n n (amp circuit.gates) s (graph_sum start)) (sym read.scalar) f.scaled in
    let to_start = scaled_proportional n n (amp circuit.gates) (graph_sum start) c.in_ok-read.read.scalar scaled in
    let rest = subst (λ m. Implements m (graph_sum start) (odd_phases start) most_simplified_root2 made.gates made.scalar) f.outputs r.kept in
    let whole : Implements n (amp circuit.gates) (odd_phases start) most_left_root2 made.gates c.times-made.result =
    implements_scaled (4 * length circuit.gates) c.in_ok-read.read.scalar scaled read.small rest c.times-made.ensures
    (fits (length circuit.gates) c.gates.ensures.few) in
    record {
      run = subst (λ (g : Graph). IsRun g (map step_named made.trace.steps) made.reduced.graph) f.graph r.run;
      reduced = r.reduced;
      well_formed = r.well_formed;
      inputs = r.inputs ∙ f.inputs;
      outputs = r.outputs ∙ f.outputs;
      fewer = le_trans r.fewer f.odd;
      reduced_map = from_circuit n (length start.inputs) o start (amp circuit.gates) (graph_sum made.reduced.graph) f.inputs f.outputs to_start r.reduced_map;
      kept = implements_more whole f.odd (le_refl most_left_root2);
      tidy = r.tidy;
      few = bound_rises n o (odd_phases start) (gate_odd_phases circuit.gates) (length made.gates.gates) f.outputs f.odd r.few_gates;
    }
