-- What is left to do makes the same of what is there as all did.
use Rattle.std.proofs.Common.{◌+◌, drop}
use Rattle.zx_identities.specs.Internal.Parities.{AreBelow, IsRead}
use Rattle.zx_identities.proofs.parities.read.Given as goal

abbrev pub invariant-loop-gate : goal.invariant-loop-gate
invariant-loop-gate l = record {
  read : IsRead l.qubits l.gates (drop l.gate-index l.gates) l.parities.items l.terms.items;
  below : AreBelow (l.qubits + 1) l.parities.items;
}
