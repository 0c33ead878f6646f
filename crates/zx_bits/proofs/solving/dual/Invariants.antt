use Rattle.std.proofs.Common.{◌≡◌, drop}
use Rattle.zx_bits.specs.Rows.{flipped}
use Rattle.zx_bits.specs.Solving.{zeros}
use Rattle.zx_bits.specs.Internal.Elimination.{dual_of}
use Rattle.zx_bits.proofs.solving.dual.Given as goal

abbrev pub invariant-loop-i : goal.invariant-loop-i
invariant-loop-i l = l.dual.bits ≡ dual_of (drop l.i l.basis) (flipped (zeros l.m.columns) l.column)
