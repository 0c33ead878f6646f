-- A reduced graph has no vertices in XZ; cleanup raises nothing.
use Rattle.std.proofs.Common.{◌≤◌, ◌+◌, ◌*◌, length, arith, le_trans, not}
use Rattle.std.proofs.lemmas.List.Sums.{length-filter, count_by-le-length}
use Rattle.zx_calculus.specs.Graph.{Graph, Vertex, is_XY}
use Rattle.zx_calculus.specs.Counts.{not_XY}
use Rattle.zx_extract.proofs.SimplifiedLemmas.{no_XZ}
use Rattle.zx_gates.specs.Circuit.{gate_limit}
use Rattle.open_graph.specs.OpenGraph.{most_vertices_in_memory}
use Rattle.zx_gates.proofs.Passing.{implements_preserved, product_fits}
use Rattle.zx_simplify.proofs.extracting.extract_tidy.Goals as goal

pub extract-requires-clause-planes : goal.extract-requires-clause-planes
extract-requires-clause-planes c = no_XZ c.args.reduced.graph c.requires.well_formed c.requires.reduced

-- as many doublings as vertices that aren't XY, and no more than vertices
few_doublings : (g : Graph) → length g.vertices ≤ most_vertices_in_memory → 2 * not_XY g ≤ 2 * most_vertices_in_memory
few_doublings g few =
    let p = λ (v : Vertex). not (is_XY v.kind.plane) in
    omega (arith, few, length-filter p g.vertices, count_by-le-length p g.vertices)

-- the scalars of extraction and cleanup
fits : (g : Graph) → length g.vertices ≤ most_vertices_in_memory → 2 * not_XY g + gate_limit ≤ 2 * most_vertices_in_memory + gate_limit
fits g few = omega (arith, few_doublings g few)

pub times-requires : goal.times-requires
times-requires c =
    let g = c.args.reduced.graph in
    product_fits (2 * not_XY g) c.in_ok-made.made.scalar c.in_ok-made.ensures.kept.small c.tidy-after.ensures.kept
    (omega (arith, fits g c.vertex_count.ensures.few))

pub returns : goal.returns
returns c =
    let e = c.in_ok-made.ensures in
    let t = c.tidy-after.ensures in
    record {
      kept = implements_preserved e.kept t.kept c.times.ensures (fits c.args.reduced.graph c.vertex_count.ensures.few);
      few_gates = le_trans t.length e.few_gates;
      tidy = t.tidy;
    }
