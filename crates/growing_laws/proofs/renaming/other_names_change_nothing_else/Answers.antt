-- The laws, by their lemmas.
use Rattle.growing_laws.proofs.SameButNames.{named_itself, named_back, odd_named, reduced_named}
use Rattle.growing_laws.proofs.renaming.other_names_change_nothing_else.Goals as goal

pub returns-clause-itself : goal.returns-clause-itself
returns-clause-itself c = named_itself

pub returns-clause-back : goal.returns-clause-back
returns-clause-back c = named_back

pub returns-clause-odd : goal.returns-clause-odd
returns-clause-odd c = λ to back g h a. odd_named to back g h a.well_formed a.well_formed_too a.renamed

pub returns-clause-reduced : goal.returns-clause-reduced
returns-clause-reduced c = λ to back g h a. reduced_named to back g h a.well_formed a.well_formed_too a.renamed
