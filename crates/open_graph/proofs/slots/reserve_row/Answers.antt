use Rattle.open_graph.proofs.RoomLemmas.{vacant-put}
use Rattle.open_graph.proofs.slots.reserve_row.Goals as goal

pub returns-then-contains-clause-spare : goal.returns-then-contains-clause-spare
returns-then-contains-clause-spare c = vacant-put c.args.slots.now.slots c.args.id _ c.index_mut.result.now c.index_mut.ensures.value
