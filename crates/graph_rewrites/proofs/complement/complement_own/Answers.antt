-- The new plane and phase are those of the change.
use Rattle.std.proofs.Common.{◌∙◌, ap}
use Rattle.zx_calculus.specs.Graph.{Kind, with_kinds}
use Rattle.zx_calculus.specs.Turns.{complemented}
use Rattle.zx_calculus.specs.Edits.{at_vertex}
use Rattle.zx_calculus.proofs.Edits.{with_kinds-at}
use Rattle.graph_rewrites.proofs.complement.complement_own.Goals as goal

pub returns-clause-own : goal.returns-clause-own
returns-clause-own c =
    c.set_weight.ensures.ok
    ∙ ap (λ (k : Kind). record c.args.g.now.graph
    { vertices = with_kinds (at_vertex c.args.u (λ _. k)) c.args.g.now.graph.vertices })
    (c.complemented-plane.ensures ∙ ap complemented c.weight-plane.ensures.value)
    ∙ ap (λ vs. record c.args.g.now.graph { vertices = vs })
    (with_kinds-at c.args.u complemented c.args.g.now.graph.vertices c.weight-plane.ensures.valid.vertices_rising)
