use Rattle.graph_like.proofs.Building.{numbered_live}
use Rattle.graph_like.proofs.ends.push_end.Goals as goal

pub add_input-requires-clause-live : goal.add_input-requires-clause-live
add_input-requires-clause-live c = numbered_live c.args.graph.now.graph c.args.end.vertex c.requires.numbered c.requires.there

pub add_output-requires-clause-live : goal.add_output-requires-clause-live
add_output-requires-clause-live c = numbered_live c.args.graph.now.graph c.args.end.vertex c.requires.numbered c.requires.there
