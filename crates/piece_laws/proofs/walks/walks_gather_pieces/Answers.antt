-- The laws, by their lemmas.
use Rattle.piece_laws.proofs.Gathering.{gathered_order, gathered_width, behind_fewer}
use Rattle.piece_laws.proofs.walks.walks_gather_pieces.Goals as goal

pub returns-clause-reordered : goal.returns-clause-reordered
returns-clause-reordered c = gathered_order

pub returns-clause-width : goal.returns-clause-width
returns-clause-width c = gathered_width

pub returns-clause-fewer : goal.returns-clause-fewer
returns-clause-fewer c = behind_fewer
