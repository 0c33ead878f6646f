use Rattle.graph_like.specs.LikeForm.{ends_at}
use Rattle.graph_like.specs.Internal.Homes.{home_of}
use Rattle.graph_like.proofs.Ending.{IsAddingEnds}
use Rattle.graph_like.proofs.ends.add_ends.Given as goal

abbrev pub invariant-loop-i : goal.invariant-loop-i
invariant-loop-i l = IsAddingEnds l.side (ends_at l.spiders (home_of l.homes) l.legs) l.i l.fn.graph.graph l.graph.graph
