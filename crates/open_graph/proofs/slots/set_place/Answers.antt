use Rattle.open_graph.proofs.ReachLemmas.{keeps_put}
use Rattle.open_graph.proofs.slots.set_place.Goals as goal

pub returns-in-Input-clause-room : goal.returns-in-Input-clause-room
returns-in-Input-clause-room c reach = keeps_put reach c.args.slots.now.slots c.get.result _ c.index_mut-slot.result.now c.index_mut-slot.ensures.value (λ lt le. le)

pub returns-in-Output-clause-room : goal.returns-in-Output-clause-room
returns-in-Output-clause-room c reach = keeps_put reach c.args.slots.now.slots c.get.result _ c.index_mut-slot.result.now c.index_mut-slot.ensures.value (λ lt le. le)
