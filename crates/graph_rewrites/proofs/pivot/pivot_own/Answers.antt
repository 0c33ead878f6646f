-- The vertex's own plane and phase.
use Rattle.std.proofs.Common.{◌∙◌, ap}
use Rattle.zx_calculus.specs.Graph.{Kind}
use Rattle.zx_calculus.specs.Turns.{pivoted}
use Rattle.zx_calculus.specs.Edits.{at_vertex}
use Rattle.zx_calculus.proofs.Edits.{with_kinds-at}
use Rattle.zx_calculus.specs.Internal.ChangedKinds.{with_changed}
use Rattle.graph_rewrites.proofs.pivot.pivot_own.Goals as goal

pub returns-clause-own : goal.returns-clause-own
returns-clause-own c =
    c.set_weight.ensures.ok
    ∙ ap (λ (k : Kind). with_changed (at_vertex c.args.u (λ _. k)) c.args.g.now.graph)
    (c.pivoted-plane.ensures ∙ ap pivoted c.weight-plane.ensures.value)
    ∙ ap (λ vs. record c.args.g.now.graph { vertices = vs })
    (with_kinds-at c.args.u pivoted c.args.g.now.graph.vertices c.weight-plane.ensures.valid.vertices_rising)
