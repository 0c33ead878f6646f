use Rattle.std.proofs.Common.{ap, [], ◌∷◌, List, length, length-append, arith}
use Rattle.zx_calculus.specs.Graph.{XY, Vertex, Graph}
use Rattle.zx_calculus.specs.Worked.{vertex}
use Rattle.graph_like.proofs.Building.{numbered_live}
use Rattle.graph_like.proofs.ends.split_off.Goals as goal

pub toggle_edge-requires-clause-u_live : goal.toggle_edge-requires-clause-u_live
toggle_edge-requires-clause-u_live c =
    let old : Graph = c.args.graph.now.graph in
    let new : List Vertex = vertex (length old.vertices) XY c.new.result ∷ [] in
    numbered_live c.push_vertex.new.graph.graph c.args.v c.in_ok-vertex.ensures.numbered
    (omega (arith, ap (λ (g : Graph). length g.vertices) c.in_ok-vertex.ensures.ok, length-append old.vertices new, c.requires.there))

pub toggle_edge-requires-clause-v_live : goal.toggle_edge-requires-clause-v_live
toggle_edge-requires-clause-v_live c =
    let old : Graph = c.args.graph.now.graph in
    let new : List Vertex = vertex (length old.vertices) XY c.new.result ∷ [] in
    numbered_live c.push_vertex.new.graph.graph c.in_ok-vertex.vertex c.in_ok-vertex.ensures.numbered
    (omega (arith, ap (λ (g : Graph). length g.vertices) c.in_ok-vertex.ensures.ok, length-append old.vertices new, c.in_ok-vertex.ensures.number))
