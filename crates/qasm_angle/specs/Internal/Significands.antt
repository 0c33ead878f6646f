-- What is known of the digits that were read so far. Public contracts speak of `literal_value` alone.
use Rattle.std.specs.Prelude.{◌≡◌, ℕ, ◌+◌, ◌*◌, ◌^◌, ◌<◌, ◌≤◌, Bool, false, not, ◌&&◌, ◌||◌, ◌==◌, nat_le, nat_lt}
use Rattle.std.specs.Prelude.{if◌then◌else◌, List, [], ◌∷◌}
use Rattle.qasm_angle.specs.Literals.{number_from, number_of, significant, most_significant}
use Rattle.qasm_angle.specs.declared.significand.Significand.{Significand}

-- how many digits there are from the first one other than 0 on, with one more
abbrev pub next_count : ℕ → ℕ → ℕ
next_count count d = if (count == 0) && (d == 0) then 0 else count + 1

-- whether a digit other than 0 comes after the most that are significant, where so many stand before
abbrev pub overlong : ℕ → List ℕ → Bool
overlong count [] = false
overlong count (d ∷ digits) = (not (d == 0) && nat_le most_significant count) || overlong (next_count count d) digits

pub record IsSignificand (s : Significand) : Type 0 where
  pub small : s.leading < 10 ^ s.count
  pub few : s.count ≤ most_significant
  pub nonzero : 0 < s.count → 0 < s.leading
  pub full : 0 < s.zeros → s.count ≡ most_significant

-- the digits so far and the rest decide as all digits do
pub record DecidesAlike (s : Significand) (rest digits : List ℕ) : Type 0 where
  pub number : number_from (s.leading * 10 ^ s.zeros) rest ≡ number_of digits
  pub length : overlong (s.count + s.zeros) rest ≡ nat_lt most_significant (significant digits)
