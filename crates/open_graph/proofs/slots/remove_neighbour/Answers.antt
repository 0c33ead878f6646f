use Rattle.std.proofs.Common.{arith}
use Rattle.open_graph.proofs.ReachLemmas.{keeps_put}
use Rattle.open_graph.proofs.slots.remove_neighbour.Goals as goal

pub returns-clause-room : goal.returns-clause-room
returns-clause-room c reach = keeps_put reach c.args.slots.now.slots c.get.result _ c.index_mut.result.now c.index_mut.ensures.value (λ lt le. omega (arith, le, c.remove.ensures.keeps_room))
