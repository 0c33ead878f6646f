-- All so far are made of the circuit.
use Rattle.std.specs.List.{All}
use Rattle.zx_optimise.specs.Bounds.{most_root2_of_fewer}
use Rattle.zx_optimise.specs.Internal.Making.{IsMadeOf}
use Rattle.zx_optimise.proofs.rounds.long_ends.Given as goal

abbrev pub invariant-loop-insertion : goal.invariant-loop-insertion
invariant-loop-insertion l = All (IsMadeOf most_root2_of_fewer l.list) l.ends.items
