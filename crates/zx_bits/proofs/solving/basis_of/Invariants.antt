use Rattle.zx_bits.specs.Internal.Elimination.{IsBasis}
use Rattle.zx_bits.proofs.solving.basis_of.Given as goal

abbrev pub invariant-loop-i : goal.invariant-loop-i
invariant-loop-i l = IsBasis l.m l.i l.basis.items
