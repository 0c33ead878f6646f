-- The law, by its lemma.
use Rattle.teleport_laws.proofs.Shifting.{step_carries}
use Rattle.teleport_laws.proofs.shifts.steps_carry_phases_along.Goals as goal

pub returns : goal.returns
returns c = step_carries
