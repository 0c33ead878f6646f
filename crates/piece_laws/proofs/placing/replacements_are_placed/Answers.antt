-- The laws, by their lemmas.
use Rattle.piece_laws.proofs.Placements.{placed_replacement}
use Rattle.piece_laws.proofs.Scaling.{scaled_placed}
use Rattle.piece_laws.proofs.placing.replacements_are_placed.Goals as goal

pub returns-clause-replacement : goal.returns-clause-replacement
returns-clause-replacement c = placed_replacement

pub returns-clause-scaled : goal.returns-clause-scaled
returns-clause-scaled c = scaled_placed
