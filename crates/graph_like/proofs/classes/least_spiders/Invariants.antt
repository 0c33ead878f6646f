use Rattle.graph_like.proofs.Joining.{IsFusingLists}
use Rattle.graph_like.proofs.classes.least_spiders.Given as goal

abbrev pub invariant-loop-u : goal.invariant-loop-u
invariant-loop-u l = IsFusingLists l.d l.contraction.near.items l.contraction.least.items l.u
