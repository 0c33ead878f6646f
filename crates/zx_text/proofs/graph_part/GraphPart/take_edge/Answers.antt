-- An edge more.
use Rattle.std.proofs.Common.{sym, ◌∙◌, arith}
use Rattle.zx_text.proofs.PartLemmas.{edge_place, toggle_at, edge_last, edge_taken, live_below, same_numbered}
use Rattle.zx_text.proofs.graph_part.GraphPart.take_edge.Goals as goal

pub toggle_edge-requires-clause-u_live : goal.toggle_edge-requires-clause-u_live
toggle_edge-requires-clause-u_live c =
    let place = edge_place c.args.a c.args.b (sym c.self.view_is) c.self.invariant.0 (sym c.has_place_for.ensures ∙ c.if-not-has_place_for.false) in
    live_below c.self.inside.graph.graph c.self.inside.vertices _ c.self.invariant.0 (omega (arith, place.0, place.1.0, c.new.ensures))

pub toggle_edge-requires-clause-v_live : goal.toggle_edge-requires-clause-v_live
toggle_edge-requires-clause-v_live c =
    let place = edge_place c.args.a c.args.b (sym c.self.view_is) c.self.invariant.0 (sym c.has_place_for.ensures ∙ c.if-not-has_place_for.false) in
    live_below c.self.inside.graph.graph c.self.inside.vertices _ c.self.invariant.0 (omega (arith, place.1.0, c.new-2.ensures))

pub invariant_of-self-2 : goal.invariant_of-self-2
invariant_of-self-2 c =
    let place = edge_place c.args.a c.args.b (sym c.self.view_is) c.self.invariant.0 (sym c.has_place_for.ensures ∙ c.if-not-has_place_for.false) in
    let toggled = toggle_at c.new.ensures c.new-2.ensures c.in_ok-toggle_edge.ensures.ok in
    let valid = c.toggle_edge.ensures.valid in (
      same_numbered valid toggled.vertices c.self.invariant.0,
      record { before = c.self.inside.graph.graph.edges; all = edge_last c.self.invariant.0.valid valid toggled place.0 place.1.1 },
    )

pub returns-clause-added : goal.returns-clause-added
returns-clause-added c = λ e.
    let place = edge_place c.args.a c.args.b (sym c.self.view_is) c.self.invariant.0 (sym c.has_place_for.ensures ∙ c.if-not-has_place_for.false) in
    let toggled = toggle_at c.new.ensures c.new-2.ensures c.in_ok-toggle_edge.ensures.ok in
    edge_taken (sym c.self.view_is) toggled (edge_last c.self.invariant.0.valid c.toggle_edge.ensures.valid toggled place.0 place.1.1)
