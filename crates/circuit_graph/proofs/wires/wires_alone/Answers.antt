-- One more wire.
use Rattle.std.proofs.Common.{◌∙◌, ap}
use Rattle.zx_model.specs.Bits.{member}
use Rattle.zx_calculus.specs.Graph.{End, Graph, ids, kind_of, plane_of, end_vertices}
use Rattle.circuit_graph.proofs.Calls.{new_live, new_plane, new_free, wires_more}
use Rattle.circuit_graph.proofs.wires.wires_alone.Goals as goal

pub add_input-requires-clause-live : goal.add_input-requires-clause-live
add_input-requires-clause-live c =
    ap (λ (e : End). member e.vertex (ids c.add_vertex.new.self.graph.vertices)) c.plain-end.ensures
    ∙ new_live c.loop.graph.graph c.in_ok-first.first c.new.result c.add_vertex.new.self.graph c.in_ok-first.ensures.fresh c.new.ensures c.in_ok-first.ensures.ok

pub add_input-requires-clause-plane : goal.add_input-requires-clause-plane
add_input-requires-clause-plane c =
    ap (λ (e : End). plane_of c.add_vertex.new.self.graph e.vertex) c.plain-end.ensures
    ∙ new_plane c.loop.graph.graph c.in_ok-first.first c.new.result c.add_vertex.new.self.graph c.in_ok-first.ensures.fresh c.new.ensures c.in_ok-first.ensures.ok

pub add_input-requires-clause-free : goal.add_input-requires-clause-free
add_input-requires-clause-free c =
    ap (λ (e : End). member e.vertex (end_vertices c.add_vertex.new.self.graph.inputs)) c.plain-end.ensures
    ∙ (new_free c.loop.graph.graph c.in_ok-first.first c.new.result c.add_vertex.new.self.graph c.in_ok-first.ensures.fresh c.new.ensures c.in_ok-first.ensures.ok c.loop.counter c.loop.invariant.begun).0

pub add_output-requires-clause-live : goal.add_output-requires-clause-live
add_output-requires-clause-live c =
    ap (λ (g : Graph). member c.plain-end.result.vertex (ids g.vertices)) c.in_ok-add_input.ensures.ok
    ∙ ap (λ (e : End). member e.vertex (ids c.add_vertex.new.self.graph.vertices)) c.plain-end.ensures
    ∙ new_live c.loop.graph.graph c.in_ok-first.first c.new.result c.add_vertex.new.self.graph c.in_ok-first.ensures.fresh c.new.ensures c.in_ok-first.ensures.ok

pub add_output-requires-clause-plane : goal.add_output-requires-clause-plane
add_output-requires-clause-plane c =
    ap (λ (g : Graph). (kind_of g.vertices c.plain-end.result.vertex).plane) c.in_ok-add_input.ensures.ok
    ∙ ap (λ (e : End). plane_of c.add_vertex.new.self.graph e.vertex) c.plain-end.ensures
    ∙ new_plane c.loop.graph.graph c.in_ok-first.first c.new.result c.add_vertex.new.self.graph c.in_ok-first.ensures.fresh c.new.ensures c.in_ok-first.ensures.ok

pub add_output-requires-clause-free : goal.add_output-requires-clause-free
add_output-requires-clause-free c =
    ap (λ (g : Graph). member c.plain-end.result.vertex (end_vertices g.outputs)) c.in_ok-add_input.ensures.ok
    ∙ ap (λ (e : End). member e.vertex (end_vertices c.add_vertex.new.self.graph.outputs)) c.plain-end.ensures
    ∙ (new_free c.loop.graph.graph c.in_ok-first.first c.new.result c.add_vertex.new.self.graph c.in_ok-first.ensures.fresh c.new.ensures c.in_ok-first.ensures.ok c.loop.counter c.loop.invariant.begun).1

pub loop-preserved : goal.loop-preserved
loop-preserved c = record {
  begun = wires_more c.loop.graph.graph c.in_ok-first.first c.new.result c.add_vertex.new.self.graph c.in_ok-first.ensures.fresh c.new.ensures c.in_ok-first.ensures.ok
      c.loop.counter c.loop.invariant.begun c.loop.invariant.well_formed c.in_ok-first.ensures.least c.plain-end.result c.add_input.new.self.graph c.add_output.new.self.graph c.plain-end.ensures c.in_ok-add_input.ensures.ok c.in_ok-add_output.ensures.ok;
  well_formed = c.in_ok-add_output.ensures.valid;
}
