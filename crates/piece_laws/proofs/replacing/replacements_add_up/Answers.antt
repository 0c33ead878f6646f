-- The laws, by their lemmas.
use Rattle.piece_laws.proofs.Replacements.{replacement-refl, replacement-trans}
use Rattle.piece_laws.proofs.replacing.replacements_add_up.Goals as goal

pub returns-clause-itself : goal.returns-clause-itself
returns-clause-itself c = replacement-refl

pub returns-clause-two : goal.returns-clause-two
returns-clause-two c = replacement-trans
