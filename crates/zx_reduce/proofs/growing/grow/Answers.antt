-- All gates are there at the end, and the moves that are left do the rest.
use Rattle.std.proofs.Common.{◌≡◌, ◌∙◌, sym, ap, subst, ℕ, ◌+◌, ◌*◌, ◌<◌, ◌≤◌, List, length, take, get_or, arith}
use Rattle.std.proofs.Math.Seq.{take-length}
use Rattle.zx_model.specs.Scalar.{IsWithin, most_root2, product_of_scalars}
use Rattle.zx_model.proofs.Scalars.{within_more, within_product}
use Rattle.zx_gates.specs.Circuit.{IsOnQubits, gate_limit}
use Rattle.zx_gates.specs.declared.gate.Gate.{Gate}
use Rattle.circuit_graph.specs.Translation.{written_out}
use Rattle.growing_laws.proofs.GrownGraphs.{grown_outputs}
use Rattle.zx_reduce.specs.Scaling.{most_steps}
use Rattle.zx_reduce.specs.Internal.Growing.{IsGrown, none_held}
use Rattle.zx_reduce.proofs.Growths.{one_more}
use Rattle.zx_reduce.proofs.Completing.{completed_ordered, grown_whole}
use Rattle.zx_reduce.proofs.growing.grow.Goals as goal

pub loop-gate-init : goal.loop-gate-init
loop-gate-init c = record { grown = subst (λ n. IsGrown n _ none_held c.in_ok-growing.growing.engine.progress) c.qubits.ensures.value c.in_ok-growing.ensures }

pub add_gate-requires-clause-on_qubits : goal.add_gate-requires-clause-on_qubits
add_gate-requires-clause-on_qubits c =
    let read = c.args.circuit.now in
    let i = c.loop-gate.gate-index in
    let grown = c.loop-gate.invariant.grown in
    let gate = c.gate-item.result in
    let is = c.gate-item.is ∙ ap (λ gates. get_or gates i gate) c.gates-gate-items.ensures.value in
    subst (λ m. IsOnQubits m gate)
    (sym (grown_outputs read.qubits (written_out (take i read.gates)) grown.on_qubits c.loop-gate.growing.engine.progress.ordered.graph grown.comes))
    (subst (IsOnQubits read.qubits) (sym is)
    (c.gates-gate-items.ensures.valid.on_qubits i gate (omega (arith, ap length c.gates-gate-items.ensures.value))).0)

pub loop-gate-preserved : goal.loop-gate-preserved
loop-gate-preserved c = record {
  grown = one_more c.args.circuit.now.qubits c.args.circuit.now.gates none_held c.loop-gate.gate-index c.gate-item.result c.loop-gate.growing.engine.progress _
      (omega (arith, ap length c.gates-gate-items.ensures.value)) (c.gate-item.is ∙ ap (λ gates. get_or gates c.loop-gate.gate-index c.gate-item.result) c.gates-gate-items.ensures.value)
      c.loop-gate.invariant.grown c.in_ok-add_gate.ensures;
}

pub finish-requires-clause-ordered : goal.finish-requires-clause-ordered
finish-requires-clause-ordered c =
    completed_ordered c.loop-gate.growing.engine.progress c.in_ok-ended.ended c.in_ok-ended.ensures c.loop-gate.invariant.grown.ordered

pub times-requires : goal.times-requires
times-requires c =
    let gates = c.args.circuit.now.gates in
    let end = c.in_ok-ended.ended in
    within_more (4 * length gates + 2 * end.steps) most_root2 (product_of_scalars c.scalar_of.result c.in_ok-made.made.scalar)
    (within_product (4 * length gates) (2 * end.steps) c.scalar_of.result c.in_ok-made.made.scalar c.scalar_of.ensures.small c.in_ok-made.ensures.small.small)
    (fits (length gates) end.steps c.gates.ensures.few c.in_ok-made.ensures.small.few)
  where
    fits : (m n : ℕ) → m < gate_limit → n ≤ most_steps → 4 * m + 2 * n ≤ most_root2
    fits m n few less = omega (arith, few, less)

pub returns : goal.returns
returns c =
    let read = c.args.circuit.now in
    let made = c.in_ok-made.made in
    let all : c.loop-gate.gate-index ≡ length read.gates = omega (arith, ap length c.gates-gate-items.ensures.value) in
    grown_whole read c.loop-gate.growing.engine.progress c.in_ok-ended.ended made.graph.graph made.flow.flow made.trace.steps made.scalar c.times.result
    (λ k d within. (c.gates-gate-items.ensures.valid.on_qubits k d within).0)
    c.gates.ensures.few (subst (IsWithin (4 * length read.gates)) c.scalar_of.ensures.value c.scalar_of.ensures.small)
    (subst (λ (gates : List Gate). IsGrown read.qubits (written_out gates) none_held c.loop-gate.growing.engine.progress)
    (ap (λ i. take i read.gates) all ∙ take-length read.gates) c.loop-gate.invariant.grown)
    c.in_ok-ended.ensures c.in_ok-made.ensures (c.times.ensures ∙ ap (λ s. product_of_scalars s made.scalar) c.scalar_of.ensures.value)
