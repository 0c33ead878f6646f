-- The edge is toggled, or isn't there.
use Rattle.std.proofs.Common.{◌∙◌, sym}
use Rattle.zx_calculus.specs.Graph.{plain}
use Rattle.circuit_laws.proofs.Places.{member-places}
use Rattle.zx_extract.proofs.Calls.{unjoined_already, ends_differ, edge_taken}
use Rattle.zx_extract.proofs.frontier.Frontier.take_edge.Goals as goal
use Rattle.std.proofs.lemmas.Result.{on_ok_weaker}

pub has_edge-requires : goal.has_edge-requires
has_edge-requires c = record {
  u_output = member-places c.args.self.now.graph.graph.outputs c.args.p (plain c.present-first.result) c.present-first.ensures;
  v_output = member-places c.args.self.now.graph.graph.outputs c.args.q (plain c.present-second.result) c.present-second.ensures;
}

pub returns-then-not-has_edge : goal.returns-then-not-has_edge
returns-then-not-has_edge c =
    unjoined_already c.args.p c.args.q c.requires.ready c.present-first.ensures c.present-second.ensures
    (sym c.has_edge.ensures.value ∙ c.if-not-has_edge.true)

pub toggle_edge-requires : goal.toggle_edge-requires
toggle_edge-requires c = record {
  u_output = member-places c.args.self.now.graph.graph.outputs c.args.p (plain c.present-first.result) c.present-first.ensures;
  v_output = member-places c.args.self.now.graph.graph.outputs c.args.q (plain c.present-second.result) c.present-second.ensures;
  different = ends_differ c.args.p c.args.q c.requires.ready c.present-first.ensures c.present-second.ensures
      (sym c.has_edge.ensures.value ∙ c.if-not-has_edge.false);
}

pub returns : goal.returns
returns c = on_ok_weaker c.write.result (edge_taken c.args.p c.args.q c.requires.ready c.present-first.ensures c.present-second.ensures
    (sym c.has_edge.ensures.value ∙ c.if-not-has_edge.false) c.in_ok-toggle_edge.ensures.ok) c.write.ensures
