use Rattle.graph_like.proofs.Homing.{IsHomed}
use Rattle.graph_like.proofs.homes.Homes.of_classes.Given as goal

abbrev pub invariant-loop-u : goal.invariant-loop-u
invariant-loop-u l = IsHomed l.least l.homes.vertices.items l.homes.count l.u
