-- What isn't told yet lies past the end.
use Rattle.std.proofs.Common.{◌^◌, ◌-◌}
use Rattle.zx_flow.proofs.sets.end_of.Given as goal

abbrev pub invariant-rise : goal.invariant-rise
invariant-rise l = Unit {0}

abbrev pub decreases-rise : goal.decreases-rise
decreases-rise l = 2 ^ 64 - l.end
