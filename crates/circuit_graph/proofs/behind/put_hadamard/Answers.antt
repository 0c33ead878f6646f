-- The new spider is joined to the one that was last.
use Rattle.std.proofs.Common.{◌∙◌, ap₂, set}
use Rattle.circuit_graph.proofs.Calls.{here_there, new_live, here_other, next_there, next_plane_there, next_free_there, spider_put}
use Rattle.circuit_graph.proofs.behind.put_hadamard.Goals as goal

pub toggle_edge-requires-clause-u_live : goal.toggle_edge-requires-clause-u_live
toggle_edge-requires-clause-u_live c =
    here_there c.args.g.now.graph c.args.q c.last_spider-here.result c.in_ok-next.next c.new.result c.add_vertex.new.self.graph c.last_spider-here.ensures.valid c.last_spider-here.ensures.value c.in_ok-next.ensures.fresh c.new.ensures c.in_ok-next.ensures.ok

pub toggle_edge-requires-clause-v_live : goal.toggle_edge-requires-clause-v_live
toggle_edge-requires-clause-v_live c =
    new_live c.args.g.now.graph c.in_ok-next.next c.new.result c.add_vertex.new.self.graph c.in_ok-next.ensures.fresh c.new.ensures c.in_ok-next.ensures.ok

pub toggle_edge-requires-clause-different : goal.toggle_edge-requires-clause-different
toggle_edge-requires-clause-different c =
    here_other c.args.g.now.graph c.args.q c.last_spider-here.result c.in_ok-next.next c.new.result c.add_vertex.new.self.graph c.last_spider-here.ensures.valid c.last_spider-here.ensures.value c.in_ok-next.ensures.fresh c.new.ensures c.in_ok-next.ensures.ok

pub move_output-requires-clause-live : goal.move_output-requires-clause-live
move_output-requires-clause-live c =
    rw c.plain.ensures
    (next_there c.args.g.now.graph c.args.q c.last_spider-here.result c.in_ok-next.next c.new.result c.add_vertex.new.self.graph c.last_spider-here.ensures.valid c.last_spider-here.ensures.value c.in_ok-next.ensures.fresh c.new.ensures c.in_ok-next.ensures.ok c.toggle_edge.new.self.graph c.in_ok-toggle_edge.ensures.ok)

pub move_output-requires-clause-plane : goal.move_output-requires-clause-plane
move_output-requires-clause-plane c =
    rw c.plain.ensures
    (next_plane_there c.args.g.now.graph c.args.q c.last_spider-here.result c.in_ok-next.next c.new.result c.add_vertex.new.self.graph c.last_spider-here.ensures.valid c.last_spider-here.ensures.value c.in_ok-next.ensures.fresh c.new.ensures c.in_ok-next.ensures.ok c.toggle_edge.new.self.graph c.in_ok-toggle_edge.ensures.ok)

pub move_output-requires-clause-free : goal.move_output-requires-clause-free
move_output-requires-clause-free c =
    rw c.plain.ensures
    (next_free_there c.args.g.now.graph c.args.q c.last_spider-here.result c.in_ok-next.next c.new.result c.add_vertex.new.self.graph c.last_spider-here.ensures.valid c.last_spider-here.ensures.value c.in_ok-next.ensures.fresh c.new.ensures c.in_ok-next.ensures.ok c.toggle_edge.new.self.graph c.in_ok-toggle_edge.ensures.ok _)

pub returns-clause-put : goal.returns-clause-put
returns-clause-put c =
    let h = c.toggle_edge.new.self.graph in
    spider_put c.args.g.now.graph c.args.q c.last_spider-here.result c.in_ok-next.next c.new.result c.add_vertex.new.self.graph c.last_spider-here.ensures.valid c.last_spider-here.ensures.value c.in_ok-next.ensures.fresh c.new.ensures c.in_ok-next.ensures.ok h c.in_ok-toggle_edge.ensures.ok _ c.in_ok-next.ensures.least
    (c.move_output.ensures.ok ∙ ap₂ (λ i e. record { vertices = h.vertices; edges = h.edges; inputs = h.inputs; outputs = set h.outputs i e }) c.from.ensures c.plain.ensures)
