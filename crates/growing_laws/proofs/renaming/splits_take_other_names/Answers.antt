-- The laws, by their lemmas.
use Rattle.growing_laws.proofs.Renamings.{split_input_renamed, split_output_renamed}
use Rattle.growing_laws.proofs.renaming.splits_take_other_names.Goals as goal

pub returns-clause-input : goal.returns-clause-input
returns-clause-input c = λ to back g h a. split_input_renamed to back g h a.well_formed a.well_formed_too a.renamed

pub returns-clause-output : goal.returns-clause-output
returns-clause-output c = λ to back g h a. split_output_renamed to back g h a.well_formed a.well_formed_too a.renamed
