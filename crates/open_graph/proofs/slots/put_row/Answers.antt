use Rattle.open_graph.proofs.RoomLemmas.{vacant-put}
use Rattle.open_graph.proofs.slots.put_row.Goals as goal

pub returns-clause-spare : goal.returns-clause-spare
returns-clause-spare c = vacant-put c.args.slots.now.slots c.get.result _ c.index_mut.result.now c.index_mut.ensures.value
