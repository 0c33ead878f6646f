-- The vertex of the end that is read.
use Rattle.std.proofs.Common.{◌∙◌, sym, ap, get_or}
use Rattle.std.specs.Prelude.{Some}
use Rattle.std.proofs.lemmas.Option.{slice_get-get_or}
use Rattle.zx_calculus.specs.Graph.{End}
use Rattle.open_graph.specs.OpenGraph.{OpenGraph}
use Rattle.open_graph.proofs.PlaceLemmas.{slice_get-places}
use Rattle.open_graph.proofs.open_graph.OpenGraph.output_vertex.Goals as goal

pub returns-clause-value : goal.returns-clause-value
returns-clause-value c =
    slice_get-places c.args.self.now.graph.outputs c.args.i c.index.result.now
    (slice_get-get_or c.args.self.now.graph.outputs c.args.i c.index.result.now c.requires
    ∙ ap Some (ap (λ (g : OpenGraph). get_or g.graph.outputs c.args.i c.index.result.now) (sym c.self.view_is)
    ∙ sym c.index.ensures))
    ∙ ap (λ (e : End). Some e.vertex) (sym c.behind-self.view_is)
