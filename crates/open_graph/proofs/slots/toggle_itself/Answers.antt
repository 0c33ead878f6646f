use Rattle.std.proofs.Common.{arith}
use Rattle.open_graph.proofs.ReachLemmas.{keeps_put, rows_at}
use Rattle.open_graph.proofs.slots.toggle_itself.Goals as goal

pub returns-clause-room : goal.returns-clause-room
returns-clause-room c reach =
    keeps_put reach c.args.slots.now.slots c.get.result _ c.index_mut.result.now c.index_mut.ensures.value
    (λ lt le. let kept = c.toggle.ensures.keeps_room (omega (arith, lt, le, c.get.ensures)) in omega (arith, le, kept))

pub returns-clause-has_room : goal.returns-clause-has_room
returns-clause-has_room c reach rows below =
    let le = rows_at reach c.args.slots.now.slots c.get.result c.index_mut.result.now rows c.index_mut.ensures.value (omega (arith, below, c.get.ensures)) in
    c.toggle.ensures.has_room (omega (arith, below, le))
