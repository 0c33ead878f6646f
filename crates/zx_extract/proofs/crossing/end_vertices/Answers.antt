-- One more vertex.
use Rattle.std.proofs.Common.{◌∷◌, [], ◌++◌, ◌∙◌, sym, ap}
use Rattle.zx_calculus.specs.Graph.{End}
use Rattle.zx_extract.proofs.Places.{places_more}
use Rattle.zx_extract.proofs.crossing.end_vertices.Goals as goal

pub loop-end-preserved : goal.loop-end-preserved
loop-end-preserved c =
    c.in_ok-push.ensures.items ∙ ap (λ us. us ++ c.end.inside.vertex ∷ []) c.loop-end.invariant
    ∙ sym (places_more c.args.ends.now c.loop-end.end-index c.end-item.result c.end.inside.vertex c.loop-end-test.true
    c.end-item.is (ap (λ (e : End). e.vertex) c.end.view_is))
