-- The gates of a circuit with the phases put together that a run of rewrites of its graph brings together.
-- Kissinger and van de Wetering, "Reducing the number of non-Clifford gates in quantum circuits" (Phys. Rev. A 102,
-- 022406, 2020), on phase teleportation.
use Rattle.std.specs.Prelude.{◌≡◌, ◌≤◌, List}
use Rattle.zx_model.specs.Proportional.{Proportional}
use Rattle.zx_calculus.specs.Graph.{Graph}
use Rattle.zx_calculus.specs.Counts.{odd_phases}
use Rattle.zx_calculus.specs.Reduced.{IsReduced}
use Rattle.zx_calculus.specs.Steps.{Step, IsRun}
use Rattle.zx_gates.specs.Circuit.{Circuit, gate_odd_phases}
use Rattle.zx_gates.specs.Maps.{amp}
use Rattle.zx_gates.specs.declared.gate.Gate.{Gate}
use Rattle.circuit_graph.specs.Translation.{translated}
use Rattle.teleport_circuits.specs.Circuits.{IsSkeleton}
use Rattle.teleport_circuits.specs.Teleporting.{teleported_gates}

-- The gates are those of the circuit c with other phases, as steps from its graph to h tell them. Even phases stay. The
-- gates of odd phases whose phases end up in one place are a group: its first gate gets the sum of all of them, each
-- negated where the steps negate it, and this sum is negated where the steps negate that gate's own phase; the others
-- get 0, and so do all of a group whose place is dropped. A phase gate of phase 0 is left out.
abbrev pub IsPutTogether : Circuit → List Step → Graph → List Gate → Type 0
IsPutTogether c steps h gates = (run : IsRun (translated c) steps h) → gates ≡ teleported_gates c steps h run

-- The circuit `made` has the gates of `read` but for phases that the steps bring together; they lead from the graph of
-- `read` to the reduced graph h. The map stays up to a scalar, and at most as many phases are odd as in h, and as in
-- `read`.
pub record IsTeleported (read made : Circuit) (steps : List Step) (h : Graph) : Type 0 where
  pub qubits : made.qubits ≡ read.qubits
  pub skeleton : IsSkeleton read.gates made.gates
  pub map : Proportional read.qubits read.qubits (amp made.gates) (amp read.gates)
  pub run : IsRun (translated read) steps h
  pub reduced : IsReduced h
  pub gates : IsPutTogether read steps h made.gates
  pub odd : gate_odd_phases made.gates ≤ odd_phases h
  pub fewer : gate_odd_phases made.gates ≤ gate_odd_phases read.gates

-- The circuit `made` has the gates of `read` but for phases that some steps bring together, which are named here with the
-- reduced graph to which they lead.
pub record HasTeleported (read made : Circuit) : Type 0 where
  pub steps : List Step
  pub end : Graph
  pub teleported : IsTeleported read made steps end
