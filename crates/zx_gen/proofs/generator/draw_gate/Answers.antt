-- The words that are drawn are those of the gate.
use Rattle.std.proofs.Common.{◌≡◌, ◌⊎◌, ◌<◌, arith, inl, inr}
use Rattle.zx_gates.specs.declared.gate.Gate.{Gate}
use Rattle.zx_gen.specs.Generator.{drawn, two_qubit_gate}
use Rattle.zx_gen.proofs.DrawLemmas.{on_one, on_two, cz_is, cx_is, one_drawn, two_drawn}
use Rattle.zx_gen.proofs.generator.draw_gate.Goals as goal
use Rattle.zx_gen.proofs.generator.draw_gate.Goals.{After-draw_other-r, then-kind-lt4-via-then-kind-lt4, then-kind-lt4-via-else-kind-lt4+then-qubits-eq1}

pub returns-then-kind-lt4-clause-gate : goal.returns-then-kind-lt4-clause-gate
returns-then-kind-lt4-clause-gate c =
    let few : (c.draw_below-kind.result < 4) ⊎ (c.args.qubits ≡ 1) = elim c.then-kind-lt4.branch [
      | then-kind-lt4-via-then-kind-lt4 w ↦ inl w.if-kind-lt4.true
      | then-kind-lt4-via-else-kind-lt4+then-qubits-eq1 w ↦ inr w.if-qubits-eq1.true
    ] in
    one_drawn c.args.qubits c.draw_below-kind.result c.draw_below-q.result c.args.generator.now
    c.draw_below-kind.new.generator c.draw_below-q.new.generator c.one_qubit_gate.result
    c.draw_below-kind.ensures.value c.draw_below-kind.ensures.after
    c.draw_below-q.ensures.value c.draw_below-q.ensures.after (on_one c.args.qubits c.draw_below-kind.result few) c.one_qubit_gate.ensures

-- the gate on two qubits by the words that it takes
on_both : (c : After-draw_other-r) (gate : Gate) → two_qubit_gate c.draw_below-kind.result c.draw_below-q.result c.draw_other-r.result ≡ gate
    → drawn c.args.qubits c.args.generator.now ≡ record { gate = gate; after = c.draw_other-r.new.generator }
on_both c gate is =
    two_drawn c.args.qubits c.draw_below-kind.result c.draw_below-q.result c.draw_other-r.result c.args.generator.now
    c.draw_below-kind.new.generator c.draw_below-q.new.generator c.draw_other-r.new.generator gate
    c.draw_below-kind.ensures.value c.draw_below-kind.ensures.after c.draw_below-q.ensures.value c.draw_below-q.ensures.after
    c.draw_other-r.ensures.value c.draw_other-r.ensures.after (on_two c.args.qubits c.draw_below-kind.result (omega arith) (omega arith)) is

pub returns-then-kind-eq4-clause-gate : goal.returns-then-kind-eq4-clause-gate
returns-then-kind-eq4-clause-gate c =
    on_both (goal.at.returns-then-kind-eq4-clause-gate c).After-draw_other-r _ (cz_is c.draw_below-kind.result c.draw_below-q.result c.draw_other-r.result c.if-kind-eq4.true)

pub returns-else-kind-eq4-clause-gate : goal.returns-else-kind-eq4-clause-gate
returns-else-kind-eq4-clause-gate c =
    on_both (goal.at.returns-else-kind-eq4-clause-gate c).After-draw_other-r _ (cx_is c.draw_below-kind.result c.draw_below-q.result c.draw_other-r.result c.if-kind-eq4.false)
