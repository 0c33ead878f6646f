-- One more row.
use Rattle.std.proofs.Common.{◌≡◌, ◌∙◌, ◌+◌, ap, subst, sym, refl, List, ◌++◌, [], ◌∷◌, take}
use Rattle.std.specs.Prelude.{slice_get, Some}
use Rattle.zx_calculus.specs.Graph.{End, end_vertices, IsVertex}
use Rattle.circuit_laws.proofs.Places.{output_there}
use Rattle.zx_extract.specs.Internal.FrontGraphs.{HasRows}
use Rattle.zx_extract.proofs.Fronts.{rows_more}
use Rattle.zx_extract.proofs.Places.{read_at, places_more}
use Rattle.zx_extract.proofs.front_graph.rows_of.Goals as goal

pub inner_row-requires : goal.inner_row-requires
inner_row-requires c =
    let items = c.outputs-output-items.result.now in
    let at : slice_get items c.loop-output.output-index ≡ Some c.output-item.result =
    read_at items items c.loop-output.output-index c.loop-output.output-index c.output-item.result refl refl
    c.loop-output-test.true c.output-item.is in
    subst (IsVertex c.args.g.now.graph) (sym (ap (λ (e : End). e.vertex) c.output.view_is))
    (output_there c.args.g.now.graph c.loop-output.output-index c.output-item.result c.outputs-output-items.ensures.valid
    (ap (λ es. slice_get es c.loop-output.output-index) (sym c.outputs-output-items.ensures.value) ∙ at))

pub loop-output-preserved : goal.loop-output-preserved
loop-output-preserved c =
    let more : end_vertices (take (c.loop-output.output-index + 1) c.args.g.now.graph.outputs)
    ≡ end_vertices (take c.loop-output.output-index c.args.g.now.graph.outputs) ++ c.output.inside.vertex ∷ [] =
    subst (λ (es : List End). end_vertices (take (c.loop-output.output-index + 1) es)
    ≡ end_vertices (take c.loop-output.output-index es) ++ c.output.inside.vertex ∷ []) c.outputs-output-items.ensures.value
    (places_more c.outputs-output-items.result.now c.loop-output.output-index c.output-item.result c.output.inside.vertex
    c.loop-output-test.true c.output-item.is (ap (λ (e : End). e.vertex) c.output.view_is)) in
    subst (λ vs. HasRows c.args.g.now.graph vs c.put_row.new.rows.lists) (sym more)
    (rows_more c.args.g.now.graph (end_vertices (take c.loop-output.output-index c.args.g.now.graph.outputs)) c.output.inside.vertex c.loop-output.invariant c.in_ok-put_row.ensures c.in_ok-row.ensures)
