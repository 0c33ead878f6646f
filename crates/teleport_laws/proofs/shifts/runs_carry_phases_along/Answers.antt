-- The laws, by their lemmas.
use Rattle.teleport_laws.proofs.Placing.{leads_to_the_same, keeps_the_sum}
use Rattle.teleport_laws.proofs.shifts.runs_carry_phases_along.Goals as goal

pub returns-clause-same_end : goal.returns-clause-same_end
returns-clause-same_end c = leads_to_the_same

pub returns-clause-proportional : goal.returns-clause-proportional
returns-clause-proportional c = keeps_the_sum
