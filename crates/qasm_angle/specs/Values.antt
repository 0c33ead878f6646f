-- The angle that an expression means: r + s*pi for fractions r and s. The first operation in postfix order that
-- gives no angle decides the cause. Expressions are those of OpenQASM 2 without powers and functions: Cross, Bishop,
-- Smolin, Gambetta, "Open quantum assembly language" (arXiv 1707.03429).
use Rattle.std.specs.Prelude.{List, Option, Some, Result, Ok, Err, if◌then◌else◌, pos, slice_get, ok_or, option_map}
use Rattle.qasm_angle.specs.Ratio.{Ratio, whole, is_zero, opposite, sum, product, quotient, limited}
use Rattle.qasm_angle.specs.Trees.{Tree, Number, Pi, Parameter, Negate, Binary}
use Rattle.qasm_angle.specs.declared.angle.Angle.{Angle}
use Rattle.qasm_angle.specs.declared.errors.AngleFault.{AngleFault}
use Rattle.qasm_angle.specs.declared.errors.AngleFault.TheVariants as cause
use Rattle.qasm_angle.specs.declared.expression.Operation.{Operation}
use Rattle.qasm_angle.specs.declared.expression.Operation.TheVariants.{Add, Subtract, Multiply, Divide}

-- a number without pi
abbrev pub number : Ratio → Angle
number a = record { rational = a; multiple = whole (pos 0) }

abbrev pub pi : Angle
pi = record { rational = whole (pos 0); multiple = whole (pos 1) }

-- the angle of two parts, if both are within the limit
abbrev pub of_parts : Option Ratio → Option Ratio → Result Angle AngleFault
of_parts (Some a) (Some b) = Ok (record { rational = a; multiple = b })
of_parts a b = Err cause.TooLarge

abbrev pub opposite_angle : Angle → Angle
opposite_angle a = record { rational = opposite a.rational; multiple = opposite a.multiple }

abbrev pub sum_of_angles : Angle → Angle → Result Angle AngleFault
sum_of_angles a b = of_parts (limited (sum a.rational b.rational)) (limited (sum a.multiple b.multiple))

abbrev pub scaled : Angle → Ratio → Result Angle AngleFault
scaled a factor = of_parts (limited (product a.rational factor)) (limited (product a.multiple factor))

-- one factor is without pi
abbrev pub product_of_angles : Angle → Angle → Result Angle AngleFault
product_of_angles a b =
    if is_zero b.multiple then scaled a b.rational
    else if is_zero a.multiple then scaled b a.rational
    else Err cause.NotAnAngle

abbrev pub divided : Angle → Ratio → Result Angle AngleFault
divided a divisor =
    if is_zero divisor then Err cause.Divide
    else of_parts (limited (quotient a.rational divisor)) (limited (quotient a.multiple divisor))

-- the divisor is without pi
abbrev pub quotient_of_angles : Angle → Angle → Result Angle AngleFault
quotient_of_angles a b = if is_zero b.multiple then divided a b.rational else Err cause.NotAnAngle

unfoldable pub applied : Operation → Angle → Angle → Result Angle AngleFault
applied Add a b = sum_of_angles a b
applied Subtract a b = sum_of_angles a (opposite_angle b)
applied Multiply a b = product_of_angles a b
applied Divide a b = quotient_of_angles a b

abbrev pub of_opposite : Result Angle AngleFault → Result Angle AngleFault
of_opposite (Ok a) = Ok (opposite_angle a)
of_opposite (Err c) = Err c

-- the left operand is looked at first
abbrev pub of_operands : Operation → Result Angle AngleFault → Result Angle AngleFault → Result Angle AngleFault
of_operands operator (Ok a) (Ok b) = applied operator a b
of_operands operator (Ok a) (Err c) = Err c
of_operands operator (Err c) b = Err c

-- What an expression is, given the parameters' angles. A number that is past the limits is too large, and a parameter
-- that is given no angle is none.
abbrev pub value : Tree → List Angle → Result Angle AngleFault
value (Number a) args = ok_or (option_map number a) cause.TooLarge
value Pi args = Ok pi
value (Parameter i) args = ok_or (slice_get args i) cause.NotAnAngle
value (Negate a) args = of_opposite (value a args)
value (Binary operator a b) args = of_operands operator (value a args) (value b args)
