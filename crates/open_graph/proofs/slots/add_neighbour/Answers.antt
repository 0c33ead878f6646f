use Rattle.std.proofs.Common.{arith}
use Rattle.open_graph.proofs.ReachLemmas.{keeps_bounded, rows_bounded}
use Rattle.open_graph.proofs.slots.add_neighbour.Goals as goal

pub returns-clause-room : goal.returns-clause-room
returns-clause-room c =
    keeps_bounded c.args.reach c.bound_of-bound.result c.args.slots.now.slots c.args.u c.get.result c.index_mut.result.now c.get.ensures c.index_mut.ensures.value c.bound_of-bound.ensures.below
    _ c.insert_within.ensures.keeps_room

pub returns-clause-has_room : goal.returns-clause-has_room
returns-clause-has_room c rows u_below v_below =
    let bound = c.bound_of-bound.ensures.below u_below in
    c.insert_within.ensures.has_room (omega (arith, bound, v_below))
    (rows_bounded c.args.reach c.bound_of-bound.result c.args.slots.now.slots c.args.u c.get.result c.index_mut.result.now c.get.ensures c.index_mut.ensures.value c.bound_of-bound.ensures.below rows u_below)
