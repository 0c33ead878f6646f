use Rattle.open_graph.proofs.ReachLemmas.{becomes_empty}
use Rattle.open_graph.proofs.side.clear.Goals as goal

pub returns-clause-sound : goal.returns-clause-sound
returns-clause-sound c = (becomes_empty c.clear.new.slots.slots _ _ c.clear.ensures.gone c.clear-2.ensures.items c.clear-3.ensures.items).sound

pub returns-clause-empty : goal.returns-clause-empty
returns-clause-empty c = (becomes_empty c.clear.new.slots.slots _ _ c.clear.ensures.gone c.clear-2.ensures.items c.clear-3.ensures.items).graph
