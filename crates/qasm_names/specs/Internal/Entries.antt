-- Expressions by the items of their postfix order.
use Rattle.std.specs.Prelude.{◌≡◌, Bool, true, false, not, ◌||◌, List, map}
use Rattle.std.specs.List.{list_any}
use Rattle.std.specs.Option.{is_some}
use Rattle.qasm_angle.specs.Literals.{literal_value}
use Rattle.qasm_angle.specs.declared.expression.ExprItem.{ExprItem}
use Rattle.qasm_reader.specs.declared.expression.Operator.{Operator}
use Rattle.qasm_reader.specs.declared.expression.Operator.TheVariants.{Add, Subtract, Multiply, Divide, Power}
use Rattle.qasm_reader.specs.Syntax.{Formula}
use Rattle.qasm_reader.specs.Postfix.{Entry, NumberEntry, PiEntry, NameEntry, NegateEntry, BinaryEntry, CallEntry}
use Rattle.qasm_scope.specs.Angles.{is_power, is_unsupported, place_or_zero}
use Rattle.qasm_scope.specs.Faults.{has_other_name}
use Rattle.qasm_scope.specs.Angles.{numbered}
use Rattle.qasm_names.specs.declared.places.Places.{Places}
use Rattle.qasm_names.specs.Places.{place_in}
use Rattle.qasm_angle.specs.declared.expression.Operation as angle_operator
use Rattle.qasm_angle.specs.declared.expression.Operation.TheVariants as operators
use Rattle.qasm_angle.specs.declared.expression.ExprItem.TheVariants as step
use Rattle.qasm_angle.specs.Trees as tree

-- the item is `^` or a function
abbrev pub is_unsupported_entry : Entry → Bool
is_unsupported_entry (NumberEntry text) = false
is_unsupported_entry PiEntry = false
is_unsupported_entry (NameEntry name) = false
is_unsupported_entry NegateEntry = false
is_unsupported_entry (BinaryEntry operator) = is_power operator
is_unsupported_entry (CallEntry function) = true

-- the item is a name that has no place
abbrev pub has_no_place : Places → Entry → Bool
has_no_place places (NumberEntry text) = false
has_no_place places PiEntry = false
has_no_place places (NameEntry name) = not (is_some (place_in places name))
has_no_place places NegateEntry = false
has_no_place places (BinaryEntry operator) = false
has_no_place places (CallEntry function) = false

-- the operation on angles; for `^` any
abbrev pub operator_of : Operator → angle_operator.Operation
operator_of Add = operators.Add
operator_of Subtract = operators.Subtract
operator_of Multiply = operators.Multiply
operator_of Divide = operators.Divide
operator_of Power = operators.Multiply

-- the item is `^`, a function or a name that has no place
abbrev pub is_other_entry : Places → Entry → Bool
is_other_entry places e = is_unsupported_entry e || has_no_place places e

-- the step that an item is, but for those
abbrev pub step_of : Places → Entry → ExprItem
step_of places (NumberEntry text) = step.Number (literal_value text)
step_of places PiEntry = step.Pi
step_of places (NameEntry name) = step.Parameter (place_or_zero (place_in places name))
step_of places NegateEntry = step.Negate
step_of places (BinaryEntry operator) = step.Binary (operator_of operator)
step_of places (CallEntry function) = step.Pi

-- an expression holds `^`, a function or a name that has no place
abbrev pub has_other : Places → Formula → Bool
has_other places f = is_unsupported f || has_other_name (place_in places) f

-- the item is none of those, and is this step
pub record IsStep (places : Places) (e : Entry) (item_step : ExprItem) : Type 0 where
  pub none_other : is_other_entry places e ≡ false
  pub same : item_step ≡ step_of places e

-- the items, none of them `^`, a function or a name without a place, are these steps
pub record AreSteps (places : Places) (entries : List Entry) (steps : List ExprItem) : Type 0 where
  pub none_other : list_any (is_other_entry places) entries ≡ false
  pub same : steps ≡ map (step_of places) entries

-- the expression holds no `^`, no function and no name without a place, and is this tree with its parameters by their
-- places
pub record IsPlaced (places : Places) (f : Formula) (placed_tree : tree.Tree) : Type 0 where
  pub supported : is_unsupported f ≡ false
  pub all_placed : has_other_name (place_in places) f ≡ false
  pub same : placed_tree ≡ numbered (place_in places) f
