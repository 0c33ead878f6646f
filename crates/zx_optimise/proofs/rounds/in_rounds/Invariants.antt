-- What is made so far is made of the circuit.
use Rattle.zx_optimise.specs.Bounds.{most_root2_of_fewer}
use Rattle.zx_optimise.specs.Internal.Making.{IsMadeOf}
use Rattle.zx_optimise.proofs.rounds.in_rounds.Given as goal

abbrev pub invariant-loop-round : goal.invariant-loop-round
invariant-loop-round l = IsMadeOf most_root2_of_fewer l.list l.current
