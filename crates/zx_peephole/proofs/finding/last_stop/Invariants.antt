-- No gate that was passed stops the gate.
use Rattle.std.proofs.Common.{◌≤◌}
use Rattle.zx_peephole.specs.Internal.Stops.{IsFreeBetween, IsWalk}
use Rattle.zx_peephole.proofs.finding.last_stop.Given as goal

abbrev pub invariant-loop-place : goal.invariant-loop-place
invariant-loop-place l = record {
  within : l.walk.place ≤ l.fn.start.place;
  walk : IsWalk l.work.gates.items l.gate l.walk;
  free : IsFreeBetween l.work.gates.items l.gate l.walk.place l.fn.start.place;
}

abbrev pub decreases-loop-place : goal.decreases-loop-place
decreases-loop-place l = l.walk.place
