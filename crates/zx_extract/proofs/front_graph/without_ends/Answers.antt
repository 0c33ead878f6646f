-- One more end.
use Rattle.std.proofs.Common.{◌∙◌, sym, ap, ◌&&◌, not}
use Rattle.std.proofs.lemmas.List.{take_all}
use Rattle.zx_model.specs.Bits.{member}
use Rattle.zx_calculus.specs.Graph.{End, end_vertices}
use Rattle.zx_extract.proofs.Places.{ends_out_more, out_toggled, out_already}
use Rattle.zx_extract.proofs.front_graph.without_ends.Goals as goal

pub loop-end-preserved-then-not-contains : goal.loop-end-preserved-then-not-contains
loop-end-preserved-then-not-contains c = ends_out_more c.args.ends.now c.loop-end.end-index c.end-item.result
    c.end.inside.vertex c.args.set.ids c.loop-end.left.ids c.loop-end.left.ids c.loop-end-test.true c.end-item.is
    (ap (λ (e : End). e.vertex) c.end.view_is) c.loop-end.invariant
    (out_already c.end.inside.vertex c.loop-end.left.ids (sym c.contains.ensures ∙ c.if-not-contains.true))

pub loop-end-preserved : goal.loop-end-preserved
loop-end-preserved c = ends_out_more c.args.ends.now c.loop-end.end-index c.end-item.result
    c.end.inside.vertex c.args.set.ids c.loop-end.left.ids c.toggle.new.self.ids c.loop-end-test.true c.end-item.is
    (ap (λ (e : End). e.vertex) c.end.view_is) c.loop-end.invariant
    (out_toggled c.end.inside.vertex c.loop-end.left.ids c.toggle.new.self.ids (sym c.contains.ensures ∙ c.if-not-contains.false)
    c.in_ok-toggle.ensures.ok)

pub returns : goal.returns
returns c = λ w. c.loop-end.invariant w ∙ ap (λ es. member w c.args.set.ids && not (member w (end_vertices es)))
    (take_all c.loop-end.end-index c.args.ends.now c.loop-end-test.false)
