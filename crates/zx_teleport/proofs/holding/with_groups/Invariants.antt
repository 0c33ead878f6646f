-- The gates so far, and behind them those that are left with the phases of their groups, are all.
use Rattle.std.proofs.Common.{◌≡◌, ◌++◌, drop}
use Rattle.teleport_circuits.specs.Circuits.{with_phases, without_idle}
use Rattle.zx_teleport.specs.Internal.Held.{phases_held}
use Rattle.zx_teleport.proofs.holding.with_groups.Given as goal

abbrev pub invariant-loop-i : goal.invariant-loop-i
invariant-loop-i l = record {
  qubits : l.made.qubits ≡ l.fn.read.qubits;
  gates : l.made.gates ++ without_idle (with_phases (phases_held l.fn.read l.fn.groups) l.i (drop l.i l.fn.read.gates))
      ≡ without_idle (with_phases (phases_held l.fn.read l.fn.groups) 0 l.fn.read.gates);
}
