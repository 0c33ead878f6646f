use Rattle.graph_like.proofs.Joining.{IsJoined}
use Rattle.graph_like.proofs.classes.plain_neighbours.Given as goal

abbrev pub invariant-loop-i : goal.invariant-loop-i
invariant-loop-i l = IsJoined l.d l.near.items l.i
