use Rattle.std.proofs.Common.{subst}
use Rattle.std.proofs.lemmas.Result.{on_ok_weaker}
use Rattle.qasm_unroll.specs.Internal.KeptMeasures.{Inserts}
use Rattle.qasm_unroll.proofs.MeasuringLemmas.{adds-one}
use Rattle.qasm_unroll.proofs.measured.Measured.push.Goals as goal

pub returns : goal.returns
returns c = on_ok_weaker c.push.result (λ pushed.
    adds-one c.args.self.now _ c.args.measure
    (subst (λ number. Inserts c.args.self.now.qubits.numbers number c.insert.new.set.numbers) c.from.ensures c.in_ok-insert.ensures) c.in_ok-insert-2.ensures pushed) c.push.ensures.ok
