-- The laws, by their lemmas.
use Rattle.growing_laws.proofs.RunsGrown.{scaled_behind, grown_scaled}
use Rattle.growing_laws.proofs.runs.scalars_stay_behind_gates.Goals as goal

pub returns-clause-peeled : goal.returns-clause-peeled
returns-clause-peeled c = scaled_behind

pub returns-clause-grown : goal.returns-clause-grown
returns-clause-grown c = grown_scaled
