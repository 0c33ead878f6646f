-- The law, by its lemma.
use Rattle.flow_rewrites.proofs.RoomLemmas.{room_reserved}
use Rattle.flow_rewrites.proofs.room_laws.reserved_room_suffices.Goals as goal

pub returns : goal.returns
returns c = λ g f trace w numbered taken.
    room_reserved g f trace w numbered.planes numbered.ids taken.places taken.steps
