use Rattle.open_graph.proofs.ReachLemmas.{keeps_put}
use Rattle.open_graph.proofs.slots.set_kind.Goals as goal

pub returns-clause-room : goal.returns-clause-room
returns-clause-room c reach = keeps_put reach c.args.slots.now.slots c.get.result _ c.index_mut-slot.result.now c.index_mut-slot.ensures.value (λ lt le. le)
