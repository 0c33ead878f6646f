-- Numerals digit by digit.
use Rattle.std.specs.Prelude.{ℕ, ◌-◌, List, map}
use Rattle.qasm_angle.specs.Literals.{number_from}

-- the value of a numeral, after a number that stands before it
abbrev pub numeral_from : ℕ → List ℕ → ℕ
numeral_from n text = number_from n (map (λ digit. digit - 48) text)
