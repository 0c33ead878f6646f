-- A statement for which there was memory.
use Rattle.std.proofs.Common.{subst}
use Rattle.qasm_unroll.specs.Circuits.{HasBegunAs}
use Rattle.qasm_unroll.proofs.circuit.Circuit.take_in_gate.Goals as goal

pub returns-in_default-take-clause-taken : goal.returns-in_default-take-clause-taken
returns-in_default-take-clause-taken c = λ program form begun.
    let is = subst (λ kept. HasBegunAs kept c.args.self.now program c.args.gate.now.place form) c.in-Some.is begun in
    (is.0, c.in_default-take.ensures form is.1, is.2)
