-- The law, by its lemma.
use Rattle.zx_moves.proofs.MoveSteps.{begun_allowed}
use Rattle.zx_moves.proofs.simplification_laws.moves_begin_allowed.Goals as goal

pub returns : goal.returns
returns c = λ g m s rest w applies first same. begun_allowed g m s rest w applies first same
