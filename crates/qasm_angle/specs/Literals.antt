-- The value of a number that a text spells: digits with or without a point, and with or without an exponent of ten, as
-- `12`, `0.25`, `.5` and `2.5e-3` (OpenQASM 2: Cross, Bishop, Smolin, Gambetta, "Open quantum assembly language", arXiv
-- 1707.03429). Every text has a value here: bytes that don't belong to such a spelling are passed over.
use Rattle.std.specs.Prelude.{ℕ, ◌+◌, ◌-◌, ◌*◌, ◌^◌, Bool, ◌&&◌, ◌||◌, ◌==◌, nat_lt, if◌then◌else◌, List, [], ◌∷◌}
use Rattle.std.specs.Prelude.{length, take, drop, pos, Option, None, slice_index}
use Rattle.std.specs.Char.{is_ascii_digit}
use Rattle.std.specs.List.{position_or_len}
use Rattle.qasm_angle.specs.Ratio.{Ratio, lowest, limited}

-- `.`
abbrev pub is_point : ℕ → Bool
is_point b = (b == 46)

-- `e` or `E`
abbrev pub is_exponent_mark : ℕ → Bool
is_exponent_mark b = (b == 101) || (b == 69)

-- what stands before the first byte that is a mark, and what stands after it
abbrev pub before : (ℕ → Bool) → List ℕ → List ℕ
before is_mark text = take (position_or_len is_mark text) text

abbrev pub after : (ℕ → Bool) → List ℕ → List ℕ
after is_mark text = drop (position_or_len is_mark text + 1) text

-- the digits of a text, as numbers
abbrev pub digits_of : List ℕ → List ℕ
digits_of [] = []
digits_of (b ∷ text) = if is_ascii_digit b then (b - 48) ∷ digits_of text else digits_of text

-- the number that digits mean in base ten, after a number that stands before them
abbrev pub number_from : ℕ → List ℕ → ℕ
number_from leading [] = leading
number_from leading (d ∷ digits) = number_from (10 * leading + d) digits

abbrev pub number_of : List ℕ → ℕ
number_of digits = number_from 0 digits

-- from the first digit other than 0 on
abbrev pub without_leading_zeros : List ℕ → List ℕ
without_leading_zeros [] = []
without_leading_zeros (d ∷ digits) = if d == 0 then without_leading_zeros digits else d ∷ digits

-- how many digits there are up to the last one other than 0
abbrev pub count_to_last : List ℕ → ℕ
count_to_last [] = 0
count_to_last (d ∷ digits) = if (d == 0) && (count_to_last digits == 0) then 0 else count_to_last digits + 1

-- how many digits there are from the first one other than 0 to the last one other than 0
abbrev pub significant : List ℕ → ℕ
significant digits = count_to_last (without_leading_zeros digits)

-- a number has no more significant digits
abbrev pub most_significant : ℕ
most_significant = 38

-- The digits as a whole number, times 10^raised, divided by 10^lowered; none where it is past the limits.
unfoldable pub decimal : List ℕ → ℕ → ℕ → Option Ratio
decimal digits raised lowered =
    if nat_lt most_significant (significant digits) then None
    else limited (lowest (pos (number_of digits * 10 ^ raised)) (10 ^ lowered))

-- a negative exponent begins with `-`
abbrev pub is_negative : List ℕ → Bool
is_negative exponent = (slice_index exponent 0 == 45)

-- the size of an exponent
abbrev pub exponent_size : List ℕ → ℕ
exponent_size exponent = number_of (digits_of exponent)

-- how many digits stand after the point
abbrev pub places_of : List ℕ → ℕ
places_of mantissa = length (digits_of (after is_point mantissa))

-- the value of digits with a point, and an exponent with its sign
abbrev pub value_of_parts : List ℕ → List ℕ → Option Ratio
value_of_parts mantissa exponent =
    if is_negative exponent then decimal (digits_of mantissa) 0 (places_of mantissa + exponent_size exponent)
    else decimal (digits_of mantissa) (exponent_size exponent) (places_of mantissa)

-- the value of a number; none where it is past the limits
unfoldable pub literal_value : List ℕ → Option Ratio
literal_value text = value_of_parts (before is_exponent_mark text) (after is_exponent_mark text)
