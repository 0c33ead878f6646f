-- What is kept of an expression beside its steps.
use Rattle.std.specs.Prelude.{◌≡◌, Bool, true, false, List, Option, Some, Ok}
use Rattle.qasm_angle.specs.Trees.{postfix, tree_of}
use Rattle.qasm_angle.specs.Values.{value}
use Rattle.qasm_angle.specs.declared.angle.Angle.{Angle}
use Rattle.qasm_angle.specs.declared.expression.ExprItem.{ExprItem}
use Rattle.qasm_angle.specs.declared.expression.ExprItem.TheVariants.{Number, Pi, Parameter, Negate, Binary}

-- the steps are those of a tree, which has the angle that is kept, for all arguments
pub record IsExpr (steps : List ExprItem) (constant : Option Angle) : Type 0 where
  pub tree : postfix (tree_of steps) ≡ steps
  pub for_all : (angle : Angle) → constant ≡ Some angle → (args : List Angle) → value (tree_of steps) args ≡ Ok angle

abbrev pub is_parameter : ExprItem → Bool
is_parameter (Number value) = false
is_parameter Pi = false
is_parameter (Parameter i) = true
is_parameter Negate = false
is_parameter (Binary operator) = false
