-- A vertex more.
use Rattle.std.proofs.Common.{sym, ap, subst}
use Rattle.zx_calculus.specs.Graph.{Graph}
use Rattle.open_graph.specs.Planes.{plane_named}
use Rattle.zx_text.specs.Versions.{version_named}
use Rattle.zx_text.specs.Internal.Parts.{IsLastOf}
use Rattle.zx_text.proofs.PartLemmas.{least_is, numbered_more, vertex_taken}
use Rattle.zx_text.proofs.graph_part.GraphPart.take_vertex.Goals as goal

pub invariant_of-self-2 : goal.invariant_of-self-2
invariant_of-self-2 c =
    let added = c.in_ok-add_vertex.ensures.ok in (
      numbered_more c.self.inside.graph.graph _ c.self.inside.vertices _ c.add_vertex.ensures.valid c.self.invariant.0
          (least_is c.self.inside.graph.graph c.self.inside.vertices _ c.self.invariant.0 c.in_ok-add_vertex.ensures.least)
          (ap (λ (h : Graph). h.vertices) added),
      subst (λ es. IsLastOf es c.self.inside.last_edge) (sym (ap (λ (h : Graph). h.edges) added)) c.self.invariant.1,
    )

pub returns-clause-added : goal.returns-clause-added
returns-clause-added c = λ e.
    vertex_taken c.args.phase (plane_named c.args.plane) (version_named c.args.version) (sym c.self.view_is) c.self.invariant.0 c.in_ok-add_vertex.ensures.least
    c.if-number-self.false c.in-Some.ensures.some c.in_ok-add_vertex.ensures.ok
