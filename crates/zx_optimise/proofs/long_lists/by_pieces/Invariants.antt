-- What is made so far, with the gates that are left, is made of the circuit.
use Rattle.std.proofs.Common.{◌-◌, length}
use Rattle.zx_optimise.specs.Internal.Making.{IsMadeUpTo}
use Rattle.zx_optimise.proofs.long_lists.by_pieces.Given as goal

abbrev pub invariant-loop-start : goal.invariant-loop-start
invariant-loop-start l = IsMadeUpTo l.list.qubits l.list.gates l.start l.made

abbrev pub decreases-loop-start : goal.decreases-loop-start
decreases-loop-start l = length l.list.gates - l.start
