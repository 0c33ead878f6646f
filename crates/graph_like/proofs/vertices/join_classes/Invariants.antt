use Rattle.graph_like.specs.Internal.Homes.{home_of}
use Rattle.graph_like.proofs.Building.{IsJoining}
use Rattle.graph_like.proofs.vertices.join_classes.Given as goal

abbrev pub invariant-loop-i : goal.invariant-loop-i
invariant-loop-i l = IsJoining l.spiders (home_of l.homes) l.edges l.i l.fn.graph.graph l.graph.graph
