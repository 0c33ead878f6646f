-- Those so far are all in the other list.
use Rattle.std.proofs.Common.{take, Contains}
use Rattle.zx_gates.specs.declared.elementary.Measure.{Measure}
use Rattle.zx_run.proofs.comparison.are_all_in.Given as goal

abbrev pub invariant-loop-measure : goal.invariant-loop-measure
invariant-loop-measure l = (measure : Measure) → Contains (take l.measure-index l.these) measure → Contains l.those measure
