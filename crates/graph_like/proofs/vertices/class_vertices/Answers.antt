use Rattle.std.proofs.Common.{◌≡◌, ◌∙◌, sym, ap, [], ◌∷◌, ◌++◌, List, length, ℕ, arith}
use Rattle.std.specs.Prelude.{slice_index_or}
use Rattle.std.proofs.lemmas.List.{get_or_default}
use Rattle.zx_calculus.specs.Graph.{XY, Vertex, Graph}
use Rattle.zx_calculus.specs.Worked.{vertex}
use Rattle.graph_like.proofs.Building.{length-vertices_of, vertices_of-more}
use Rattle.graph_like.proofs.vertices.class_vertices.Goals as goal

pub loop-i-preserved : goal.loop-i-preserved
loop-i-preserved c =
    let phases : List ℕ = c.args.phases.now in
    let phase : c.index-phases-i.result ≡ slice_index_or phases c.loop-i.i 0 =
    c.index-phases-i.is ∙ get_or_default phases c.loop-i.i c.index-phases-i.result 0 c.loop-i-test.true in (
      c.in_ok-push_vertex.ensures.ok
          ∙ ap (λ (k : ℕ). let h : Graph = record c.loop-i.graph.graph { vertices = c.loop-i.graph.graph.vertices ++ vertex (length c.loop-i.graph.graph.vertices) XY k ∷ [] } in h) phase
          ∙ ap (λ (g : Graph). let h : Graph = record g { vertices = g.vertices ++ vertex (length g.vertices) XY (slice_index_or phases c.loop-i.i 0) ∷ [] } in h) c.loop-i.invariant.0
          ∙ ap (λ (vs : List Vertex). let h : Graph = record { vertices = vs; edges = []; inputs = []; outputs = [] } in h) (sym (vertices_of-more phases c.loop-i.i)),
      c.in_ok-push_vertex.ensures.numbered,
    )

pub returns-clause-count : goal.returns-clause-count
returns-clause-count c =
    let all : c.loop-i.i ≡ length c.args.phases.now = omega (arith, c.loop-i-test.false, c.loop-i.auto.i-end) in
    ap (λ (g : Graph). length g.vertices) c.loop-i.invariant.0 ∙ length-vertices_of c.args.phases.now c.loop-i.i ∙ all
