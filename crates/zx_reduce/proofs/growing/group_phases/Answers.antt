-- All gates are there at the end, and the moves that are left do the rest.
use Rattle.std.proofs.Common.{◌≡◌, ◌<◌, ◌∙◌, sym, ap, subst, [], length, take, get_or, arith}
use Rattle.circuit_graph.specs.Translation.{written_out}
use Rattle.std.specs.Prelude.{is_some}
use Rattle.zx_gates.specs.Circuit.{IsOnQubits}
use Rattle.zx_gates.specs.declared.gate.Gate.TheVariants.{H}
use Rattle.growing_laws.proofs.GrownGraphs.{grown_outputs}
use Rattle.phase_groups.specs.Groups.{AreNone}
use Rattle.zx_reduce.specs.Internal.Growing.{IsGrown, none_held}
use Rattle.zx_reduce.proofs.Grouping.{asked, any_end, all_gates, are_some, grouped}
use Rattle.zx_reduce.proofs.growing.group_phases.Goals as goal

pub loop-i-init : goal.loop-i-init
loop-i-init c = record {
  grown = asked c.args.circuit.now c.in_ok-growing.growing.engine.progress c.hold.new.self c.in_ok-new.field-0 c.gates-gates.ensures.valid
      (subst (λ n. IsGrown n [] none_held c.in_ok-growing.growing.engine.progress) c.qubits.ensures.value c.in_ok-growing.ensures)
      (subst (λ n. AreNone n c.in_ok-new.field-0) (ap length c.gates-gates.ensures.value) c.in_ok-new.ensures) c.hold.ensures;
}

pub add_numbered-requires-clause-on_qubits : goal.add_numbered-requires-clause-on_qubits
add_numbered-requires-clause-on_qubits c =
    let read = c.args.circuit.now in
    let i = c.loop-i.i in
    let grown = c.loop-i.invariant.grown in
    let gate = c.index-gates-i.result in
    let is = c.index-gates-i.is ∙ ap (λ gates. get_or gates i gate) c.gates-gates.ensures.value in
    let test = c.loop-i-test.true in
    subst (λ m. IsOnQubits m gate)
    (sym (grown_outputs read.qubits (written_out (take i read.gates)) grown.on_qubits c.loop-i.growing.engine.progress.ordered.graph grown.comes))
    (subst (IsOnQubits read.qubits) (sym is)
    (c.gates-gates.ensures.valid.on_qubits i gate (omega (arith, test, ap length c.gates-gates.ensures.value))).0)

pub loop-i-preserved : goal.loop-i-preserved
loop-i-preserved c =
    let read = c.args.circuit.now in
    let i = c.loop-i.i in
    let gate = c.index-gates-i.result in
    let test = c.loop-i-test.true in
    let within : i < length read.gates = omega (arith, test, ap length c.gates-gates.ensures.value) in
    record {
      grown = c.in_ok-add_numbered.ensures read within
          (c.index-gates-i.is ∙ ap (λ gates. get_or gates i gate) c.gates-gates.ensures.value ∙ any_end read.gates i gate (H 0) within)
          c.loop-i.invariant.grown;
    }

pub unwrap-requires : goal.unwrap-requires
unwrap-requires c =
    let read = c.args.circuit.now in
    let test = c.loop-i-test.false in
    let end = c.loop-i.auto.i-end in
    let all : c.loop-i.i ≡ length read.gates = omega (arith, test, end, ap length c.gates-gates.ensures.value) in
    ap is_some c.take_phases.ensures.phases
    ∙ are_some read c.loop-i.growing.engine.progress (all_gates read c.loop-i.i c.loop-i.growing.engine.progress all c.loop-i.invariant.grown) c.in_ok-ended.ended c.in_ok-ended.ensures

pub returns : goal.returns
returns c =
    let read = c.args.circuit.now in
    let test = c.loop-i-test.false in
    let end = c.loop-i.auto.i-end in
    let all : c.loop-i.i ≡ length read.gates = omega (arith, test, end, ap length c.gates-gates.ensures.value) in
    grouped read c.loop-i.growing.engine.progress (all_gates read c.loop-i.i c.loop-i.growing.engine.progress all c.loop-i.invariant.grown) c.in_ok-ended.ended c.in_ok-ended.ensures c.unwrap.result
    (sym c.take_phases.ensures.phases ∙ c.unwrap.ensures)
