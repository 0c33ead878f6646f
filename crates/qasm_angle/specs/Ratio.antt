-- Fractions of whole numbers, as in school: lowest terms, and the four operations on them.
use Rattle.std.specs.Prelude.{◌≡◌, ℕ, zero, suc, ◌*◌, ◌/◌, ◌%◌, ◌^◌, ◌<◌, ◌≤◌, Bool, ◌&&◌, nat_le, ◌==◌}
use Rattle.std.specs.Prelude.{if◌then◌else◌, ℤ, pos, negsuc, ◌+ℤ◌, ◌*ℤ◌, neg_ℤ, unsigned_abs, int_div, Option, Some}
use Rattle.std.specs.Prelude.{None}

-- numerator / denominator
pub record Ratio : Type 0 where
  pub numerator : ℤ
  pub denominator : ℕ

-- Euclid's algorithm, in so many steps at most
abbrev pub gcd_within : ℕ → ℕ → ℕ → ℕ
gcd_within zero a b = a
gcd_within (suc steps) a zero = a
gcd_within (suc steps) a (suc b) = gcd_within steps (suc b) (a % suc b)

-- the greatest common divisor
unfoldable pub gcd : ℕ → ℕ → ℕ
gcd a b = gcd_within (suc b) a b

-- a / b in lowest terms, for a natural number b other than 0
unfoldable pub lowest : ℤ → ℕ → Ratio
lowest a b =
    let divisor = gcd (unsigned_abs a) b in record { numerator = int_div a (pos divisor); denominator = b / divisor }

-- a / b in lowest terms, for a whole number b other than 0
abbrev pub over : ℤ → ℤ → Ratio
over a (pos b) = lowest a b
over a (negsuc b) = lowest (neg_ℤ a) (suc b)

-- the whole number n
abbrev pub whole : ℤ → Ratio
whole n = record { numerator = n; denominator = 1 }

abbrev pub is_zero : Ratio → Bool
is_zero a = (unsigned_abs a.numerator == 0)

abbrev pub opposite : Ratio → Ratio
opposite a = record { numerator = neg_ℤ a.numerator; denominator = a.denominator }

-- a/b + c/d = (a*d + c*b) / (b*d)
abbrev pub sum : Ratio → Ratio → Ratio
sum x y = lowest (x.numerator *ℤ pos y.denominator +ℤ y.numerator *ℤ pos x.denominator) (x.denominator * y.denominator)

-- a/b * c/d = (a*c) / (b*d)
abbrev pub product : Ratio → Ratio → Ratio
product x y = lowest (x.numerator *ℤ y.numerator) (x.denominator * y.denominator)

-- a/b : c/d = (a*d) / (b*c), for c other than 0
abbrev pub quotient : Ratio → Ratio → Ratio
quotient x y = over (x.numerator *ℤ pos y.denominator) (pos x.denominator *ℤ y.numerator)

-- no number in a fraction is larger
abbrev pub largest : ℕ
largest = 2 ^ 60

-- the fraction, unless it is past the limit
unfoldable pub limited : Ratio → Option Ratio
limited a = if nat_le (unsigned_abs a.numerator) largest && nat_le a.denominator largest then Some a else None

-- lowest terms, within the limit
pub record IsFraction (a : Ratio) : Type 0 where
  pub positive : 0 < a.denominator
  pub lowest : gcd (unsigned_abs a.numerator) a.denominator ≡ 1
  pub small_numerator : unsigned_abs a.numerator ≤ largest
  pub small_denominator : a.denominator ≤ largest
