-- The laws, by their lemmas.
use Rattle.zx_moves.proofs.MoveRuns.{AreMoves-run, length-AreMoves}
use Rattle.zx_moves.proofs.MoveCounts.{AreMoves-few}
use Rattle.zx_moves.proofs.MoveEnds.{AreMoves-kept}
use Rattle.zx_moves.proofs.simplification_laws.moves_are_a_run.Goals as goal

pub returns-clause-run : goal.returns-clause-run
returns-clause-run c = AreMoves-run

pub returns-clause-six : goal.returns-clause-six
returns-clause-six c = length-AreMoves

pub returns-clause-few : goal.returns-clause-few
returns-clause-few c = AreMoves-few

pub returns-clause-kept : goal.returns-clause-kept
returns-clause-kept c = AreMoves-kept
