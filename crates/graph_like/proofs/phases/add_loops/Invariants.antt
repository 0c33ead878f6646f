use Rattle.std.proofs.Common.{drop, ◌*◌}
use Rattle.zx_model.specs.Phase.{half_turn}
use Rattle.graph_like.specs.LikeForm.{loops_at}
use Rattle.graph_like.specs.Internal.Homes.{home_of}
use Rattle.graph_like.proofs.Phasing.{IsAdding}
use Rattle.graph_like.proofs.phases.add_loops.Given as goal

abbrev pub invariant-loop-i : goal.invariant-loop-i
invariant-loop-i l =
    IsAdding l.fn.phases l.phases (λ p. half_turn * loops_at l.spiders (home_of l.homes) p (drop l.i l.edges))
    (λ p. half_turn * loops_at l.spiders (home_of l.homes) p l.edges)
