-- Sets of the same vertices are rows of the same neighbours.
use Rattle.zx_moves.proofs.SearchPairs.{rows_alike}
use Rattle.zx_moves.proofs.search.are_alike.Goals as goal

pub returns : goal.returns
returns c =
    rows_alike c.args.g.now.graph c.args.u c.args.v c.neighbour_set-2.result.now.ids c.neighbour_set.result.now.ids c.is_same.result c.neighbour_set.ensures.valid
    c.is_same.ensures.other_rising c.is_same.ensures.rising c.neighbour_set-2.ensures.members c.neighbour_set.ensures.members c.is_same.ensures.value
