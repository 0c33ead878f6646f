-- What is kept is tidy, and with what isn't read yet it has the map of the list, and is no longer than it was.
use Rattle.std.proofs.Common.{◌≡◌, ◌+◌, ◌-◌, ◌*◌, length}
use Rattle.zx_peephole.specs.Tidy.{IsTidy}
use Rattle.zx_peephole.specs.Internal.Chains.{IsSound, kept, all_left}
use Rattle.zx_peephole.specs.Internal.Changes.{Shortens}
use Rattle.zx_peephole.proofs.tidying.tidy.Given as goal

abbrev pub invariant-loop-work : goal.invariant-loop-work
invariant-loop-work l = record {
  sound : IsSound l.work;
  tidy : IsTidy (kept l.work);
  qubits : l.work.qubits ≡ l.fn.g.qubits;
  shortened : Shortens l.fn.g.qubits l.power l.fn.g.gates (all_left l.work);
}

abbrev pub decreases-loop-work : goal.decreases-loop-work
decreases-loop-work l = length (kept l.work) + 2 * (length l.work.gates.items - l.work.next)
