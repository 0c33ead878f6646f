-- The answer at each stage.
use Rattle.std.proofs.Common.{◌∙◌, subst}
use Rattle.qasm_unroll.specs.Circuits.{HasTakenAt, IsOpen}
use Rattle.qasm_unroll.proofs.CircuitLemmas.{done-circuit, empty-circuit, refused-circuit}
use Rattle.qasm_unroll.proofs.circuit.Circuit.finish.Goals as goal

pub returns-in-Empty : goal.returns-in-Empty
returns-in-Empty c = λ program taken.
    empty-circuit program _ _ _ (subst (λ stage. HasTakenAt stage program c.args.self.names c.args.self.measured c.args.self.unrolled) c.in-Empty.is taken.0)

pub returns-in-Open : goal.returns-in-Open
returns-in-Open c = λ program taken.
    let is : IsOpen program c.args.self.names c.args.self.measured c.args.self.unrolled =
    subst (λ stage. HasTakenAt stage program c.args.self.names c.args.self.measured c.args.self.unrolled) c.in-Open.is taken.0 in
    let done = done-circuit program is.scope _ _ _ c.args.self.names.qubits c.args.self.names.bits is.leads is.represents.same_qubits is.represents.same_bits in
    (done.0, c.qubits.ensures ∙ done.1, c.into_gates.ensures ∙ done.2, c.bits.ensures ∙ done.3, c.into_list.ensures ∙ done.4)

pub returns-in-Stopped : goal.returns-in-Stopped
returns-in-Stopped c = λ program taken.
    refused-circuit program _ _ _ _ (subst (λ stage. HasTakenAt stage program c.args.self.names c.args.self.measured c.args.self.unrolled) c.in-Stopped.is taken.0)
