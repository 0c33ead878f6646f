-- The odd phases of the gates so far are held.
use Rattle.std.proofs.Common.{◌≡◌, length}
use Rattle.zx_teleport.specs.Internal.Held.{AreHeldBelow}
use Rattle.zx_teleport.proofs.holding.groups_at.Given as goal

abbrev pub invariant-loop-i : goal.invariant-loop-i
invariant-loop-i l = record {
  held : AreHeldBelow l.fn.read l.i l.groups;
  count : length l.groups.phases ≡ length l.fn.read.gates;
}
