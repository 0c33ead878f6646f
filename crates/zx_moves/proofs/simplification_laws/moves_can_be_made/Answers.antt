-- The law, by its lemma.
use Rattle.zx_moves.proofs.MoveSteps.{move_made}
use Rattle.zx_moves.proofs.simplification_laws.moves_can_be_made.Goals as goal

pub returns : goal.returns
returns c = move_made
