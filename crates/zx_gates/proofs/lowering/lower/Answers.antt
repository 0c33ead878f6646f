-- All gates are lowered, and lowering keeps the map up to the scalar, and the odd phases.
use Rattle.std.proofs.Common.{ℕ, ◌+◌, ◌<◌, get_or, length, List, ◌≡◌, ◌∙◌, ap, sym, subst, arith}
use Rattle.zx_model.specs.Scalar.{IsWithin, most_root2, one_scalar, product_of_scalars}
use Rattle.zx_model.specs.declared.scalar.Scalar.{Scalar}
use Rattle.zx_gates.specs.Circuit.{Circuit, gate_odd_phases}
use Rattle.zx_gates.specs.declared.elementary.ElementaryGate.{ElementaryGate}
use Rattle.zx_gates.proofs.LoweringLemmas.{IsLoweredTo, odd_lowered, all_lowered, lowered_none, lowered_more, lowered_implements, lowered_within}
use Rattle.zx_gates.proofs.lowering.lower.Goals as goal

pub loop-gate-init : goal.loop-gate-init
loop-gate-init c =
    let e = c.args.e.now in
    record {
      qubits = ap (λ (d : Circuit). d.qubits) c.new-list.ensures;
      lowered = subst (λ (s : Scalar). IsLoweredTo e.qubits e.gates 0 c.new-list.result.gates s) (sym c.one-scalar.ensures)
          (subst (λ (d : Circuit). IsLoweredTo e.qubits e.gates 0 d.gates one_scalar) (sym c.new-list.ensures) (lowered_none e.qubits e.gates));
    }

pub times-scalar-requires : goal.times-scalar-requires
times-scalar-requires c =
    subst (λ (t : Scalar). IsWithin most_root2 (product_of_scalars c.loop-gate.scalar t)) (sym c.lowering_scalar.ensures)
    (lowered_within c.args.e.now.qubits c.args.e.now.gates c.loop-gate.gate-index c.gate-item.result c.loop-gate.list.gates c.loop-gate.scalar
    (omega (arith, ap length c.as_slice-gate-items.ensures, c.loop-gate-test.true)) c.requires.few_gates c.loop-gate.invariant.lowered)

pub loop-gate-preserved : goal.loop-gate-preserved
loop-gate-preserved c =
    let e = c.args.e.now in
    let i : ℕ = c.loop-gate.gate-index in
    let gates = c.as_slice-gate-items.ensures in
    let inside : i < length e.gates = omega (arith, ap length gates, c.loop-gate-test.true) in
    let list = c.push_lowered.new.list.gates in
    record {
      qubits = c.in_ok-push_lowered.ensures.qubits ∙ c.loop-gate.invariant.qubits;
      lowered = subst (λ (s : Scalar). IsLoweredTo e.qubits e.gates (i + 1) list s)
          (sym (c.times-scalar.ensures ∙ ap (product_of_scalars c.loop-gate.scalar) c.lowering_scalar.ensures))
          (lowered_more e.qubits e.gates i c.gate-item.result c.loop-gate.list.gates list c.loop-gate.scalar inside
          (c.gate-item.is ∙ ap (λ (gs : List ElementaryGate). get_or gs i c.gate-item.result) gates)
          c.requires.on_qubits c.in_ok-push_lowered.ensures.gates c.loop-gate.invariant.lowered);
    }

pub returns-clause-list : goal.returns-clause-list
returns-clause-list c =
    all_lowered c.loop-gate.list.gates _ c.args.e.now.gates _ c.loop-gate.invariant.lowered.gates_are c.as_slice-gate-items.ensures
    c.loop-gate-test.false c.loop-gate.auto.gate-index-end

pub returns-clause-kept : goal.returns-clause-kept
returns-clause-kept c =
    let e = c.args.e.now in
    let gates = c.as_slice-gate-items.ensures in
    let whole : c.loop-gate.gate-index ≡ length e.gates =
    omega (arith, ap length gates, c.loop-gate-test.false, c.loop-gate.auto.gate-index-end) in
    lowered_implements e.qubits e.gates c.loop-gate.gate-index c.loop-gate.list c.loop-gate.scalar whole c.loop-gate.invariant.qubits c.loop-gate.invariant.lowered

pub returns-clause-odd : goal.returns-clause-odd
returns-clause-odd c =
    ap gate_odd_phases (all_lowered c.loop-gate.list.gates _ c.args.e.now.gates _ c.loop-gate.invariant.lowered.gates_are c.as_slice-gate-items.ensures
    c.loop-gate-test.false c.loop-gate.auto.gate-index-end)
    ∙ odd_lowered c.args.e.now.gates
