-- The best one so far is made of the circuit.
use Rattle.zx_optimise.specs.Bounds.{most_root2_of_fewer}
use Rattle.zx_optimise.specs.Internal.Making.{IsMadeOf}
use Rattle.zx_optimise.proofs.rounds.by_some_seeds.Given as goal

abbrev pub invariant-loop-seed : goal.invariant-loop-seed
invariant-loop-seed l = IsMadeOf most_root2_of_fewer l.list l.best
