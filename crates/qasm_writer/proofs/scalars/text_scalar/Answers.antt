-- Each gate's scalar is its own.
use Rattle.std.proofs.Common.{ℕ, ◌≡◌, ◌+◌, ◌*◌, ◌<◌, List, get_or, length, sym, ap, ◌∙◌, subst, arith}
use Rattle.zx_model.specs.Scalar.{IsWithin, most_root2, product_of_scalars}
use Rattle.zx_model.specs.declared.scalar.Scalar.{Scalar}
use Rattle.zx_gates.specs.declared.gate.Gate.{Gate}
use Rattle.qasm_writer.proofs.LineScalars.{IsScaledTo, scaled_none, scaled_next, scaled_all, scaled_within}
use Rattle.qasm_writer.proofs.scalars.text_scalar.Goals as goal
use Rattle.qasm_writer.proofs.scalars.text_scalar.Goals.{After-line_scalar, After-loop-gate}

pub loop-gate-init : goal.loop-gate-init
loop-gate-init c =
    subst (λ (s : Scalar). IsScaledTo c.args.g.now.qubits c.args.g.now.gates 0 s) (sym c.one-scalar.ensures)
    (scaled_none c.args.g.now.qubits c.args.g.now.gates)

inside : (c : After-line_scalar) → c.loop-gate.gate-index < length c.args.g.now.gates
inside c = omega (arith, ap length c.gates-gate-items.ensures.value, c.loop-gate-test.true)

pub times-scalar-requires : goal.times-scalar-requires
times-scalar-requires c =
    let g = c.args.g.now in
    subst (λ (t : Scalar). IsWithin most_root2 (product_of_scalars c.loop-gate.scalar t)) (sym c.line_scalar.ensures)
    (scaled_within g.qubits g.gates c.loop-gate.gate-index c.gate-item.result c.loop-gate.scalar (inside (goal.at.times-scalar-requires c).After-line_scalar)
    c.gates-gate-items.ensures.few c.loop-gate.invariant)

pub loop-gate-preserved : goal.loop-gate-preserved
loop-gate-preserved c =
    let g = c.args.g.now in
    let i : ℕ = c.loop-gate.gate-index in
    subst (λ (s : Scalar). IsScaledTo g.qubits g.gates (i + 1) s)
    (sym (c.times-scalar.ensures ∙ ap (product_of_scalars c.loop-gate.scalar) c.line_scalar.ensures))
    (scaled_next g.qubits g.gates i c.gate-item.result c.loop-gate.scalar (inside (goal.at.loop-gate-preserved c).After-line_scalar)
    (c.gate-item.is ∙ ap (λ (gs : List Gate). get_or gs i c.gate-item.result) c.gates-gate-items.ensures.value)
    c.gates-gate-items.ensures.valid.on_qubits c.loop-gate.invariant)

whole : (c : After-loop-gate) → c.loop-gate.gate-index ≡ length c.args.g.now.gates
whole c = omega (arith, ap length c.gates-gate-items.ensures.value, c.loop-gate-test.false, c.loop-gate.auto.gate-index-end)

pub returns-clause-scaled : goal.returns-clause-scaled
returns-clause-scaled c =
    scaled_all c.args.g.now.qubits c.args.g.now.gates c.loop-gate.gate-index c.loop-gate.scalar (whole (goal.at.returns-clause-scaled c).After-loop-gate) c.loop-gate.invariant

pub returns-clause-small : goal.returns-clause-small
returns-clause-small c = subst (λ (k : ℕ). IsWithin (4 * k) c.loop-gate.scalar) (whole (goal.at.returns-clause-small c).After-loop-gate) c.loop-gate.invariant.within
