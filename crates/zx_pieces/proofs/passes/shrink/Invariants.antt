-- What is made so far replaces the circuit, and each pass adds to the scalar's exponent.
use Rattle.std.proofs.Common.{◌+◌, ◌*◌}
use Rattle.zx_gates.specs.Passes.{Preserves}
use Rattle.piece_laws.specs.Replacement.{IsNoLarger}
use Rattle.zx_pieces.specs.Scaling.{most_root2_of_pass}
use Rattle.zx_pieces.proofs.passes.shrink.Given as goal

abbrev pub invariant-loop-number : goal.invariant-loop-number
invariant-loop-number l = record {
  kept : Preserves ((l.number + 1) * most_root2_of_pass) l.circuit l.made l.scalar;
  no_larger : IsNoLarger l.made.gates l.circuit.gates;
}
