-- The laws, by their lemmas.
use Rattle.zx_moves.proofs.MoveRuns.{length-steps_of, steps_of-some}
use Rattle.zx_moves.proofs.MoveCounts.{most_moves-move}
use Rattle.zx_moves.proofs.simplification_laws.moves_are_short.Goals as goal

pub returns : goal.returns
returns c = record {
  lowers = most_moves-move;
  some = steps_of-some;
  six = length-steps_of;
}
