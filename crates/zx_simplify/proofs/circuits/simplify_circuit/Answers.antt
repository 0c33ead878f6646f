-- The reduced graph is between the two circuits.
use Rattle.std.proofs.Common.{sym, ◌∙◌, arith}
use Rattle.zx_reduce.specs.Grown.{most_grown_root2}
use Rattle.zx_gates.proofs.Passing.{product_fits}
use Rattle.zx_simplify.proofs.Whole.{simplified_whole}
use Rattle.zx_simplify.proofs.circuits.simplify_circuit.Goals as goal

pub times-requires : goal.times-requires
times-requires c =
    product_fits most_grown_root2 c.in_ok-grown.grown.scalar c.in_ok-grown.ensures.small c.in_ok-circuit.ensures.kept (omega arith)

pub extract_tidy-requires-clause-ends : goal.extract_tidy-requires-clause-ends
extract_tidy-requires-clause-ends c = c.in_ok-grown.ensures.inputs ∙ sym c.in_ok-grown.ensures.outputs

pub returns : goal.returns
returns c =
    let grown = c.in_ok-grown.grown in
    let made = c.in_ok-circuit.circuit in
    simplified_whole c.args.read.now grown.graph.graph grown.flow.flow grown.scalar made.gates made.scalar c.times.result
    (λ k d within. (c.gates.ensures.valid.on_qubits k d within).0) c.in_ok-grown.ensures c.in_ok-circuit.ensures c.times.ensures
