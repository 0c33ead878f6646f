-- Angles that are whole numbers of sixteenth turns, n*pi/8. The angle of a T gate is pi/4, two of them.
use Rattle.std.specs.Prelude.{◌≡◌, ℕ, ◌/◌, ◌%◌, ◌==◌, ℤ, pos, ◌*ℤ◌, unsigned_abs, Option, Some, None, if◌then◌else◌}
use Rattle.std.specs.Prelude.{option_map}
use Rattle.std.specs.Int.{int_rem_euclid}
use Rattle.zx_model.specs.Phase.{turn, half_turn}
use Rattle.qasm_angle.specs.Ratio.{Ratio, is_zero}
use Rattle.qasm_angle.specs.declared.angle.Angle.{Angle}

-- the angle is n sixteenth turns, where pi is a half turn
pub record IsSixteenths (a : Angle) (n : ℤ) : Type 0 where
  pub rational : a.rational.numerator ≡ pos 0
  pub multiple : pos half_turn *ℤ a.multiple.numerator ≡ n *ℤ pos a.multiple.denominator

-- how many sixteenth turns s*pi is, where it is a whole number of them: where the denominator of s in lowest terms
-- divides a half turn
abbrev pub sixteenths_of_multiple : Ratio → Option ℤ
sixteenths_of_multiple s =
    if half_turn % s.denominator == 0 then Some (s.numerator *ℤ pos (half_turn / s.denominator)) else None

-- the n for which an angle in lowest terms is n sixteenth turns, if there is one
abbrev pub sixteenths_of : Angle → Option ℤ
sixteenths_of a = if is_zero a.rational then sixteenths_of_multiple a.multiple else None

-- the whole number n without whole turns, from 0 on for negative n too
abbrev pub within_a_turn : ℤ → ℕ
within_a_turn n = unsigned_abs (int_rem_euclid n (pos turn))

-- the phase of an angle that is a whole number of sixteenth turns
unfoldable pub phase_of_angle : Angle → Option ℕ
phase_of_angle a = option_map within_a_turn (sixteenths_of a)
