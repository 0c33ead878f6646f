use Rattle.std.proofs.Common.{arith}
use Rattle.open_graph.proofs.ReachLemmas.{live_within, keeps_bounded, rows_bounded}
use Rattle.open_graph.proofs.slots.toggle_row.Goals as goal

pub toggle_all_within-requires : goal.toggle_all_within-requires
toggle_all_within-requires c q there = live_within c.args.slots.now.slots q c.len-end.result c.len-end.ensures (c.requires.others_live q there)

pub returns-clause-room : goal.returns-clause-room
returns-clause-room c =
    keeps_bounded c.args.reach c.bound_of-bound.result c.args.slots.now.slots c.args.u c.get.result c.index_mut.result.now c.get.ensures c.index_mut.ensures.value c.bound_of-bound.ensures.below
    _ c.toggle_all_within.ensures.keeps_room

pub returns-clause-has_room : goal.returns-clause-has_room
returns-clause-has_room c rows u_below below =
    let bound = c.bound_of-bound.ensures.below u_below in
    c.toggle_all_within.ensures.has_room (λ q there. let lt = below q there in omega (arith, bound, lt))
    (rows_bounded c.args.reach c.bound_of-bound.result c.args.slots.now.slots c.args.u c.get.result c.index_mut.result.now c.get.ensures c.index_mut.ensures.value c.bound_of-bound.ensures.below rows u_below)
