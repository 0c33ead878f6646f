-- The inputs so far are toggled.
use Rattle.flow_check.proofs.SetLemmas.{IsSoFar}
use Rattle.flow_check.proofs.conditions.input_set.Given as goal

abbrev pub invariant-loop-end : goal.invariant-loop-end
invariant-loop-end l = IsSoFar l.end-items l.end-index l.set.ids
