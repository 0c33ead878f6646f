-- The vertex at the place.
use Rattle.std.proofs.Common.{◌∙◌, ap, sym}
use Rattle.std.specs.Prelude.{slice_get}
use Rattle.zx_calculus.specs.Graph.{end_vertices}
use Rattle.circuit_laws.proofs.Places.{plain_at}
use Rattle.circuit_graph.proofs.behind.last_spider.Goals as goal

pub returns-clause-value : goal.returns-clause-value
returns-clause-value c =
    plain_at c.args.g.now.graph.outputs c.args.q c.output_vertex.result c.requires.plain
    (ap (slice_get (end_vertices c.args.g.now.graph.outputs)) (sym c.from.ensures) ∙ c.output_vertex.ensures.value)
