-- The step that the removed vertex is.
use Rattle.std.proofs.Common.{sym, subst}
use Rattle.std.proofs.lemmas.Result.{on_ok_weaker}
use Rattle.zx_extract.specs.Internal.Steps.{AreLegs}
use Rattle.zx_extract.proofs.LastVertex.{last_live, last_no_output}
use Rattle.zx_extract.proofs.VertexCalls.{gadget_interior, gadget_set, gadget_step}
use Rattle.zx_extract.proofs.frontier.Frontier.take_gadget.Goals as goal

pub weight-plane-requires : goal.weight-plane-requires
weight-plane-requires c = last_live c.requires.ready c.requires.frontier c.requires.last

pub legs-requires-clause-live : goal.legs-requires-clause-live
legs-requires-clause-live c = last_live c.requires.ready c.requires.frontier c.requires.last

pub legs-requires-clause-inner : goal.legs-requires-clause-inner
legs-requires-clause-inner c = last_no_output c.requires.ready c.requires.frontier c.requires.last

pub remove_vertex-requires : goal.remove_vertex-requires
remove_vertex-requires c = record {
  live = last_live c.requires.ready c.requires.frontier c.requires.last;
  interior = gadget_interior c.requires.ready c.requires.plane;
}

pub take_alone-requires : goal.take_alone-requires
take_alone-requires c = gadget_set c.requires.ready c.requires.frontier c.requires.last c.requires.alone

pub returns : goal.returns
returns c =
    let legs = subst (AreLegs c.args.self.now.graph.graph c.args.v) (sym c.deref.ensures.value) c.in_ok-legs.ensures in
    on_ok_weaker c.write_gadget.result (λ written. (
      c.deref.result.now,
      legs,
      gadget_step c.requires.ready c.requires.frontier c.requires.last c.requires.alone c.requires.plane legs
          c.weight-plane.ensures.value c.in_ok-remove_vertex.ensures c.take_alone.ensures written,
    )) c.write_gadget.ensures
