-- The laws, by their lemmas.
use Rattle.growing_laws.proofs.Renamings.{spider_renamed, phase_renamed, edge_renamed}
use Rattle.growing_laws.proofs.renaming.gates_take_other_names.Goals as goal

pub returns-clause-spider : goal.returns-clause-spider
returns-clause-spider c = λ to back g h a. spider_renamed to back g h a.well_formed a.well_formed_too a.renamed

pub returns-clause-phase : goal.returns-clause-phase
returns-clause-phase c = λ to back g h a. phase_renamed to back g h a.well_formed a.well_formed_too a.renamed

pub returns-clause-edge : goal.returns-clause-edge
returns-clause-edge c = λ to back g h a. edge_renamed to back g h a.well_formed a.well_formed_too a.renamed
