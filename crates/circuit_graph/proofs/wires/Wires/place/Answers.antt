-- The last spider is the vertex at the output.
use Rattle.std.proofs.Common.{◌∙◌, sym, ap, Some}
use Rattle.circuit_graph.specs.Translation.{phase_vertex}
use Rattle.circuit_graph.proofs.Graphs.{last_spider_is}
use Rattle.circuit_graph.proofs.wires.Wires.place.Goals as goal

pub returns-in-Phase : goal.returns-in-Phase
returns-in-Phase c =
    ap Some (sym (last_spider_is c.args.self.now.graph.graph.outputs c.in-Phase.q c.last_spider.result c.last_spider.ensures.value))
    ∙ sym (ap (phase_vertex c.args.self.now.graph.graph) c.in-Phase.is)
