-- No end is where no vertex is.
use Rattle.std.proofs.Common.{◌∙◌, sym}
use Rattle.zx_calculus.specs.Graph.{ids, end_vertices}
use Rattle.zx_calculus.proofs.Splitting.{absent_from}
use Rattle.open_graph.specs.Sides.{ends_of}
use Rattle.graph_rewrites.proofs.Splits.{allowed_is, ends_ordered}
use Rattle.graph_rewrites.proofs.split.may_split.Goals as goal

pub returns-then-is_live-clause-value : goal.returns-then-is_live-clause-value
returns-then-is_live-clause-value c = c.is_some.ensures ∙ c.place_at.ensures.found ∙ sym (allowed_is c.args.side c.args.g.now.graph c.args.b)

pub returns-else-is_live-clause-value : goal.returns-else-is_live-clause-value
returns-else-is_live-clause-value c =
    let g = c.args.g.now.graph in
    c.if-is_live.false
    ∙ sym (allowed_is c.args.side g c.args.b
    ∙ absent_from (ids g.vertices) (end_vertices (ends_of c.args.side g)) c.args.b (ends_ordered c.args.side g c.is_live.ensures.valid).there
    (sym c.is_live.ensures.value ∙ c.if-is_live.false))
