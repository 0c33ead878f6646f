-- Nothing is kept of the gate.
use Rattle.std.proofs.Common.{subst}
use Rattle.qasm_unroll.specs.Circuits.{HasBegunAs}
use Rattle.qasm_unroll.proofs.circuit.Circuit.end_gate.Goals as goal

pub returns-in-Some : goal.returns-in-Some
returns-in-Some c = λ program form begun. (
  c.after_gate-self.ensures.stage program form (subst (λ kept. HasBegunAs kept c.args.self.now program c.args.gate.place form) c.in-Some.is begun),
  c.after_gate-self.ensures.recent,
)

pub returns-in_default : goal.returns-in_default
returns-in_default c = λ program form begun.
    (subst (λ kept. HasBegunAs kept c.args.self.now program c.args.gate.place form) c.in_default.is begun) form
