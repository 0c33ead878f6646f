use Rattle.std.proofs.Common.{◌<◌, length, arith}
use Rattle.graph_like.proofs.Building.{numbered_live}
use Rattle.graph_like.proofs.vertices.join.Goals as goal

pub toggle_edge-requires-clause-u_live : goal.toggle_edge-requires-clause-u_live
toggle_edge-requires-clause-u_live c =
    let there : c.new-a.result < length c.args.graph.now.graph.vertices =
    omega (arith, c.new-a.ensures, c.of.ensures, c.requires.homes.within c.args.edge.a c.requires.edge.0) in
    numbered_live c.args.graph.now.graph c.new-a.result c.requires.numbered there

pub toggle_edge-requires-clause-v_live : goal.toggle_edge-requires-clause-v_live
toggle_edge-requires-clause-v_live c =
    let there : c.new-b.result < length c.args.graph.now.graph.vertices =
    omega (arith, c.new-b.ensures, c.of-2.ensures, c.requires.homes.within c.args.edge.b c.requires.edge.1) in
    numbered_live c.args.graph.now.graph c.new-b.result c.requires.numbered there
