-- The laws, by their lemmas.
use Rattle.zx_calculus.proofs.ReducedLemmas.{reduced_stuck}
use Rattle.zx_moves.proofs.MoveEnds.{stuck-reduced}
use Rattle.zx_moves.proofs.simplification_laws.moves_end_in_reduced_graphs.Goals as goal

pub returns-clause-reduced : goal.returns-clause-reduced
returns-clause-reduced c = stuck-reduced

pub returns-clause-stuck : goal.returns-clause-stuck
returns-clause-stuck c = reduced_stuck
