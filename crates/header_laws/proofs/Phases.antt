-- Phases are below a turn.
use Rattle.std.specs.Prelude.{◌≡◌, ℕ, ◌<◌, ℤ, pos, negsuc, Option, Some, None, option_map}
use Rattle.std.proofs.Common.{subst, arith}
use Rattle.zx_model.specs.Phase.{turn}
use Rattle.qasm_angle.specs.declared.angle.Angle.{Angle}
use Rattle.qasm_angle.specs.Sixteenths.{phase_of_angle, within_a_turn, sixteenths_of}

within_below : (n : ℤ) → within_a_turn n < turn
within_below (pos n) = omega arith
within_below (negsuc n) = omega arith

some_below : (o : Option ℤ) (k : ℕ) → option_map within_a_turn o ≡ Some k → k < turn
some_below None k e = cc
some_below (Some n) k e = let f : within_a_turn n ≡ k = cc in subst (λ k. k < turn) f (within_below n)

pub phase_below : (a : Angle) (k : ℕ) → phase_of_angle a ≡ Some k → k < turn
unfolding phase_of_angle
phase_below a k e = some_below (sixteenths_of a) k e
