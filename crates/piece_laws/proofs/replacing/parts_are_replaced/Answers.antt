-- The laws, by their lemmas.
use Rattle.piece_laws.proofs.Matrices.{replaced_map}
use Rattle.piece_laws.proofs.Replacements.{replaced, replaced_in_front}
use Rattle.piece_laws.proofs.replacing.parts_are_replaced.Goals as goal

pub returns-clause-map : goal.returns-clause-map
returns-clause-map c = replaced_map

pub returns-clause-replacement : goal.returns-clause-replacement
returns-clause-replacement c = replaced

pub returns-clause-in_front : goal.returns-clause-in_front
returns-clause-in_front c = replaced_in_front
