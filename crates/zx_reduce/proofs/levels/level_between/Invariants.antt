-- No level is above the highest.
use Rattle.std.proofs.Common.{◌≤◌, ◌-◌}
use Rattle.zx_reduce.proofs.levels.level_between.Given as goal

abbrev pub invariant-loop-first : goal.invariant-loop-first
invariant-loop-first l = l.level ≤ 15

abbrev pub decreases-loop-first : goal.decreases-loop-first
decreases-loop-first l = 15 - l.level
