-- Nothing is put in yet, and one insertion more.
use Rattle.std.proofs.Common.{ap}
use Rattle.zx_gates.specs.Circuit.{Circuit}
use Rattle.zx_identities.proofs.Inserted.{started, one_within}
use Rattle.zx_identities.proofs.inserting.put_all_in.Goals as goal

pub loop-insertion-init : goal.loop-insertion-init
loop-insertion-init c = record {
  qubits = ap (λ (circuit : Circuit). circuit.qubits) c.in_ok-copy.ensures;
  scaled = started c.args.circuit.now c.in_ok-copy.field-0 c.one.result c.in_ok-copy.ensures c.one.ensures;
  small = one_within c.one.result c.one.ensures;
}
