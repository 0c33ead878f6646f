-- The phase is added to the last spider.
use Rattle.std.proofs.Common.{◌∙◌, ap}
use Rattle.zx_calculus.specs.Graph.{Kind, plain}
use Rattle.zx_calculus.specs.Turns.{in_plane}
use Rattle.open_graph.specs.Planes.{plane_named}
use Rattle.circuit_laws.proofs.Places.{output_plane}
use Rattle.circuit_graph.proofs.Calls.{here_live, phase_peel}
use Rattle.circuit_graph.proofs.behind.put_phase.Goals as goal

pub weight-plane-requires : goal.weight-plane-requires
weight-plane-requires c = here_live c.args.g.now.graph c.args.q c.last_spider-here.result c.last_spider-here.ensures.valid c.last_spider-here.ensures.value

pub set_weight-requires-clause-live : goal.set_weight-requires-clause-live
set_weight-requires-clause-live c = here_live c.args.g.now.graph c.args.q c.last_spider-here.result c.last_spider-here.ensures.valid c.last_spider-here.ensures.value

pub set_weight-requires-clause-plane : goal.set_weight-requires-clause-plane
set_weight-requires-clause-plane c =
    λ end. ap (λ (k : Kind). k.plane) c.weight-plane.ensures.value
    ∙ output_plane c.args.g.now.graph c.args.q (plain c.last_spider-here.result) c.last_spider-here.ensures.valid c.last_spider-here.ensures.value

pub returns : goal.returns
returns c =
    phase_peel c.args.g.now.graph c.args.q c.last_spider-here.result c.args.phase c.weight-plane.result.1 c.add.result (plane_named c.weight-plane.result.0) _
    c.last_spider-here.ensures.valid c.last_spider-here.ensures.value c.weight-plane.ensures.value (ap (in_plane (plane_named c.weight-plane.result.0)) c.add.ensures) c.set_weight.ensures.ok
