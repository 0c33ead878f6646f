-- The step that the toggled row is.
use Rattle.std.proofs.Common.{sym, refl, [], ◌∷◌}
use Rattle.zx_calculus.specs.Graph.{neighbours, plain}
use Rattle.zx_calculus.proofs.Programs.{neighbour}
use Rattle.circuit_laws.proofs.Places.{member-places}
use Rattle.zx_extract.specs.Internal.Frontiers.{remainder_of}
use Rattle.zx_extract.proofs.LastVertex.{frontier_apart}
use Rattle.zx_extract.proofs.RowToggles.{row_added_step}
use Rattle.zx_extract.proofs.frontier.Frontier.add_row.Goals as goal
use Rattle.std.proofs.lemmas.Result.{on_ok_weaker}

pub add_row-requires : goal.add_row-requires
add_row-requires c = record {
  u_output = member-places c.args.self.now.graph.graph.outputs c.args.c (plain c.present-added.result) c.present-added.ensures;
  v_output = member-places c.args.self.now.graph.graph.outputs c.args.t (plain c.present-to.result) c.present-to.ensures;
  apart = frontier_apart c.requires.ready c.requires.frontier;
}

pub returns : goal.returns
returns c = on_ok_weaker c.write_cx.result (λ written.
    row_added_step (remainder_of c.args.self.now) c.args.c c.args.t c.present-added.result c.present-to.result
    c.requires.ready c.requires.frontier c.present-added.ensures c.present-to.ensures c.requires.apart
    c.add_row.new.self.graph (c.present-to.result ∷ []) (neighbours c.args.self.now.graph.graph c.present-added.result)
    c.add_row-2.new.self.flow (remainder_of c.write_cx.new.self) refl
    (λ p. sym (neighbour c.args.self.now.graph.graph c.requires.ready.given.well_formed c.present-added.result p))
    (c.requires.no_input c.present-added.result c.present-added.ensures)
    c.in_ok-add_row.ensures.ok c.in_ok-add_row-2.ensures written) c.write_cx.ensures
