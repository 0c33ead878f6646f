use Rattle.std.proofs.Common.{drop}
use Rattle.graph_like.specs.LikeForm.{phases_at}
use Rattle.graph_like.specs.Internal.Homes.{home_of}
use Rattle.graph_like.proofs.Phasing.{IsAdding}
use Rattle.graph_like.proofs.phases.add_spiders.Given as goal

abbrev pub invariant-loop-u : goal.invariant-loop-u
invariant-loop-u l =
    IsAdding l.fn.phases l.phases (λ p. phases_at (home_of l.homes) p l.u (drop l.u l.spiders)) (λ p. phases_at (home_of l.homes) p 0 l.spiders)
