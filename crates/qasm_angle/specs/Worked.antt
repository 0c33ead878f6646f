-- Names for worked examples.
use Rattle.std.specs.Prelude.{ℕ, ℤ, pos, Some}
use Rattle.qasm_angle.specs.Ratio.{Ratio, whole}
use Rattle.qasm_angle.specs.Trees.{Tree, Number}
use Rattle.qasm_angle.specs.declared.angle.Angle.{Angle}

-- a / b, as it stands
abbrev pub ratio : ℤ → ℕ → Ratio
ratio a b = record { numerator = a; denominator = b }

-- a number in an expression
abbrev pub numeral : ℕ → Tree
numeral n = Number (Some (whole (pos n)))

-- the angle (a/b)*pi
abbrev pub of_pi : ℤ → ℕ → Angle
of_pi a b = record { rational = whole (pos 0); multiple = ratio a b }
