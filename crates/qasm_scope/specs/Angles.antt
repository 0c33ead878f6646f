-- Values of expressions in which parameters have names.
use Rattle.std.specs.Prelude.{ℕ, Bool, true, false, ◌||◌, List, [], ◌∷◌, Option, None, Some, Result, Ok, Err, position}
use Rattle.std.specs.Str.{bytes_eq}
use Rattle.qasm_angle.specs.declared.angle.Angle.{Angle}
use Rattle.qasm_angle.specs.declared.errors.AngleFault as angle_cause
use Rattle.qasm_angle.specs.declared.errors.AngleFault.TheVariants as angle_causes
use Rattle.qasm_angle.specs.declared.expression.Operation.TheVariants as operators
use Rattle.qasm_angle.specs.Literals.{literal_value}
use Rattle.qasm_angle.specs.Trees as tree
use Rattle.qasm_angle.specs.Values.{value}
use Rattle.qasm_reader.specs.declared.expression.Operator.{Operator}
use Rattle.qasm_reader.specs.declared.expression.Operator.TheVariants.{Add, Subtract, Multiply, Divide, Power}
use Rattle.qasm_reader.specs.Syntax.{Formula, Number, Pi, Name, Negate, Binary, Call}
use Rattle.qasm_scope.specs.declared.causes.Cause.{Cause}
use Rattle.qasm_scope.specs.declared.causes.Cause.TheVariants as causes

-- the expression holds `^` or a function
abbrev pub is_power : Operator → Bool
is_power Power = true
is_power operator = false

abbrev pub is_unsupported : Formula → Bool
is_unsupported (Negate f) = is_unsupported f
is_unsupported (Binary operator f g) = is_power operator || is_unsupported f || is_unsupported g
is_unsupported (Call function f) = true
is_unsupported f = false

-- the formal names of a gate: of each name the place that it has among them
abbrev pub FormalPlaces : Type 0
FormalPlaces = List ℕ → Option ℕ

-- the places of these names; of equal ones the first counts
abbrev pub places_among : List (List ℕ) → FormalPlaces
places_among names name = position (λ other. bytes_eq other name) names

-- a place, or 0
abbrev pub place_or_zero : Option ℕ → ℕ
place_or_zero None = 0
place_or_zero (Some i) = i

abbrev pub place_of : List ℕ → List (List ℕ) → ℕ
place_of name names = place_or_zero (places_among names name)

-- the operation on two values, for the operators other than `^`
abbrev pub binary : Operator → tree.Tree → tree.Tree → tree.Tree
binary Add a b = tree.Binary operators.Add a b
binary Subtract a b = tree.Binary operators.Subtract a b
binary Multiply a b = tree.Binary operators.Multiply a b
binary Divide a b = tree.Binary operators.Divide a b
binary Power a b = a

-- an expression without `^` and functions, its parameters by their places
abbrev pub numbered : FormalPlaces → Formula → tree.Tree
numbered places (Number text) = tree.Number (literal_value text)
numbered places Pi = tree.Pi
numbered places (Name name) = tree.Parameter (place_or_zero (places name))
numbered places (Negate f) = tree.Negate (numbered places f)
numbered places (Binary operator f g) = binary operator (numbered places f) (numbered places g)
numbered places (Call function f) = numbered places f

abbrev pub cause_of : angle_cause.AngleFault → Cause
cause_of angle_causes.Divide = causes.Divide
cause_of angle_causes.TooLarge = causes.AngleTooLarge
cause_of angle_causes.NotAnAngle = causes.NotSixteenthTurn

abbrev pub with_cause : Result Angle angle_cause.AngleFault → Result Angle Cause
with_cause (Ok angle) = Ok angle
with_cause (Err cause) = Err (cause_of cause)

-- the value of an expression where the parameters of these names have these values
unfoldable pub angle_of : List (List ℕ) → List Angle → Formula → Result Angle Cause
angle_of names angles f = with_cause (value (numbered (places_among names) f) angles)

-- a value before others; of two causes the first counts
abbrev pub in_prefix : Result Angle Cause → Result (List Angle) Cause → Result (List Angle) Cause
in_prefix (Err cause) rest = Err cause
in_prefix (Ok angle) (Err cause) = Err cause
in_prefix (Ok angle) (Ok angles) = Ok (angle ∷ angles)

-- the values of expressions, or what is wrong with the first that has none
abbrev pub angles_of : List (List ℕ) → List Angle → List Formula → Result (List Angle) Cause
angles_of names angles [] = Ok []
angles_of names angles (f ∷ fs) = in_prefix (angle_of names angles f) (angles_of names angles fs)
