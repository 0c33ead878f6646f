-- The vertex of the output is there, and its row tells.
use Rattle.std.proofs.Common.{◌∙◌, ap, sym, true≢false}
use Rattle.zx_calculus.specs.Graph.{joined, plain}
use Rattle.zx_calculus.proofs.Ids.{not-true as off_by}
use Rattle.circuit_laws.proofs.Places.{output_there, member-places}
use Rattle.zx_extract.proofs.Places.{one_vertex}
use Rattle.zx_extract.proofs.frontier.Frontier.is_spare_leg.Goals as goal

pub has_input-requires : goal.has_input-requires
has_input-requires c = output_there c.args.self.now.graph.graph c.args.q (plain c.present-leg.result)
    c.requires.ready.given.well_formed c.present-leg.ensures

pub returns-then-has-clause-yes : goal.returns-then-has-clause-yes
returns-then-has-clause-yes c = λ none. record {
  leg = c.present-leg.result;
  output = c.present-leg.ensures;
  near = sym (c.has.ensures (member-places c.args.self.now.graph.graph.outputs c.args.q (plain c.present-leg.result)
      c.present-leg.ensures) c.requires.live c.requires.inner) ∙ c.if-has.true;
  no_input = sym c.has_input.ensures ∙ off_by c.has_input.result none;
}

pub returns-else-has-clause-no : goal.returns-else-has-clause-no
returns-else-has-clause-no c = λ u _ at_u near. absurd (true≢false (sym near
    ∙ ap (joined c.args.self.now.graph.graph.edges c.args.v) (one_vertex c.args.self.now.graph.graph c.args.q u
    c.present-leg.result at_u c.present-leg.ensures)
    ∙ sym (c.has.ensures (member-places c.args.self.now.graph.graph.outputs c.args.q (plain c.present-leg.result)
    c.present-leg.ensures) c.requires.live c.requires.inner) ∙ c.if-has.false))
