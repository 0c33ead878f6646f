-- One application more, while the circuit is open.
use Rattle.std.proofs.Common.{sym, subst, map, ◌++◌, ◌∷◌, []}
use Rattle.std.proofs.lemmas.Result.{IfOk-weaker}
use Rattle.qasm_reader.specs.Views.{callee, operand}
use Rattle.qasm_unroll.specs.Circuits.{HasTakenAt, IsOpen, applied_at}
use Rattle.qasm_unroll.proofs.RecentLemmas.{plain-taken}
use Rattle.qasm_unroll.proofs.circuit.Circuit.take_plain.Goals as goal

pub returns-in-Open-clause-taken : goal.returns-in-Open-clause-taken
returns-in-Open-clause-taken c = IfOk-weaker c.apply_plain.result _ _ (λ taken h done program place is.
    let self = c.args.self.now in
    let gate = callee c.args.gate.now in
    let qubits = map operand c.args.qubits.now in
    let opened : IsOpen program self.names self.measured self.unrolled = subst (λ stage. HasTakenAt stage program self.names self.measured self.unrolled) c.in-Open.is is.0 in (
      subst (λ stage. HasTakenAt stage (program ++ applied_at place gate qubits ∷ []) self.names self.measured c.apply_plain.new.unrolled) (sym c.in-Open.is)
          (plain-taken program place gate qubits self.names self.measured self.unrolled c.apply_plain.new.unrolled opened c.apply_plain.ensures.known (h done self.names.symbols is.1 opened.remembers)),
      is.1,
    )) c.apply_plain.ensures.applied
