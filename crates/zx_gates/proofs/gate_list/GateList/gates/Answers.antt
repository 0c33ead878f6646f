-- The list's own invariant.
use Rattle.std.proofs.Common.{subst}
use Rattle.zx_gates.specs.Circuit.{IsCircuit}
use Rattle.zx_gates.proofs.gate_list.GateList.gates.Goals as goal

pub returns-clause-valid : goal.returns-clause-valid
returns-clause-valid c = subst IsCircuit c.self.view_is c.self.invariant.circuit
