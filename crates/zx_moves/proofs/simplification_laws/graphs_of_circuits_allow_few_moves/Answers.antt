-- The laws, by their lemmas.
use Rattle.zx_moves.proofs.MoveCounts.{most_moves-translated, AreMoves-translated}
use Rattle.zx_moves.proofs.simplification_laws.graphs_of_circuits_allow_few_moves.Goals as goal

pub returns-clause-most : goal.returns-clause-most
returns-clause-most c = most_moves-translated

pub returns-clause-moves : goal.returns-clause-moves
returns-clause-moves c = AreMoves-translated
