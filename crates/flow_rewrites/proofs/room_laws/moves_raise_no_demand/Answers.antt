-- The laws, by their lemmas.
use Rattle.flow_rewrites.proofs.DemandMoves.{inside_move, after_move, after_moves, demand_at_most}
use Rattle.flow_rewrites.proofs.room_laws.moves_raise_no_demand.Goals as goal

pub returns : goal.returns
returns c = record { inside = inside_move; after = after_move; along = after_moves; most = demand_at_most }
