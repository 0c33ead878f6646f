-- What is left to be put out gives what all did.
use Rattle.std.proofs.Common.{◌≡◌, map, reverse, length}
use Rattle.qasm_reader.specs.Items.{entry}
use Rattle.qasm_reader.specs.Internal.Machine as spec
use Rattle.qasm_reader.proofs.machine.release.Given as goal

abbrev pub invariant-loop-last : goal.invariant-loop-last
invariant-loop-last l =
    spec.release l.bound (map entry l.output.items) (reverse l.pending.items)
    ≡ spec.release l.bound (map entry l.initial.output.items) (reverse l.initial.pending.items)

abbrev pub decreases-loop-last : goal.decreases-loop-last
decreases-loop-last l = length l.pending.items
