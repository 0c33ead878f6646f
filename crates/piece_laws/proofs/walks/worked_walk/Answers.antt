-- The walk computes.
use Rattle.std.proofs.Common.{refl}
use Rattle.piece_laws.proofs.walks.worked_walk.Goals as goal

pub returns-clause-piece : goal.returns-clause-piece
returns-clause-piece c = refl

pub returns-clause-behind : goal.returns-clause-behind
returns-clause-behind c = refl
