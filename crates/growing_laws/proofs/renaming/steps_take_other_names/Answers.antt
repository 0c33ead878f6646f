-- The laws, by their lemmas.
use Rattle.growing_laws.proofs.Renamed.{step_renamed, run_renamed}
use Rattle.growing_laws.proofs.renaming.steps_take_other_names.Goals as goal

pub returns-clause-step : goal.returns-clause-step
returns-clause-step c = λ to back g h a. step_renamed to back g h a.well_formed a.well_formed_too a.renamed

pub returns-clause-run : goal.returns-clause-run
returns-clause-run c = λ to back g h steps after a none. run_renamed to back g h steps after a.well_formed a.well_formed_too none a.renamed
