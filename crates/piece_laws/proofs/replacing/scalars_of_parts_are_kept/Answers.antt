-- The laws, by their lemmas.
use Rattle.piece_laws.proofs.Scaling.{scaled_part, scaled_in_front}
use Rattle.piece_laws.proofs.replacing.scalars_of_parts_are_kept.Goals as goal

pub returns-clause-part : goal.returns-clause-part
returns-clause-part c = scaled_part

pub returns-clause-in_front : goal.returns-clause-in_front
returns-clause-in_front c = scaled_in_front
