use Rattle.std.proofs.Common.{refl}
use Rattle.open_graph.proofs.Turning.{same_room_put}
use Rattle.open_graph.proofs.slots.turn_one.Goals as goal

pub returns-clause-room : goal.returns-clause-room
returns-clause-room c = same_room_put c.args.slots.now.slots c.get.result _ c.index_mut-slot.result.now c.index_mut-slot.ensures.value refl
