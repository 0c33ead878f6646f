-- How a tree is coded, which the toolchain wants of each value of a model: by its steps.
use Rattle.std.specs.Prelude.{◌≡◌, ℕ, zero, suc, ℤ, List, Option, ◌⊎◌, refl}
use Rattle.std.specs.Coded.{Coded, code_by, coded×, coded⊎, coded_ℕ, coded_ℤ, coded_list, coded_option}
use mathlib.Core.Logic.{inl, inr}
use Rattle.qasm_angle.specs.Ratio.{Ratio}
use Rattle.qasm_angle.specs.Trees.{Tree, postfix, tree_of, tree_of-postfix}
use Rattle.qasm_angle.specs.declared.expression.Operation.TheVariants.{Add, Subtract, Multiply, Divide}
use Rattle.qasm_angle.specs.declared.expression.ExprItem.{ExprItem}
use Rattle.qasm_angle.specs.declared.expression.ExprItem.TheVariants.{Number, Pi, Parameter, Negate, Binary}

abbrev pub ratio_code : Coded Ratio
ratio_code =
    code_by (ℤ × ℕ) (coded× coded_ℤ coded_ℕ) (λ r. (r.numerator, r.denominator))
    (λ p. record { numerator = p.0; denominator = p.1 }) (λ _. refl)

abbrev from_step : ExprItem → Option Ratio ⊎ ℕ
from_step (Number value) = inl value
from_step Pi = inr 0
from_step Negate = inr 1
from_step (Binary Add) = inr 2
from_step (Binary Subtract) = inr 3
from_step (Binary Multiply) = inr 4
from_step (Binary Divide) = inr 5
from_step (Parameter i) = inr (suc (suc (suc (suc (suc (suc i))))))

abbrev to_step : Option Ratio ⊎ ℕ → ExprItem
to_step (inl value) = Number value
to_step (inr zero) = Pi
to_step (inr (suc zero)) = Negate
to_step (inr (suc (suc zero))) = Binary Add
to_step (inr (suc (suc (suc zero)))) = Binary Subtract
to_step (inr (suc (suc (suc (suc zero))))) = Binary Multiply
to_step (inr (suc (suc (suc (suc (suc zero)))))) = Binary Divide
to_step (inr (suc (suc (suc (suc (suc (suc i))))))) = Parameter i

pub to_step-from_step : (s : ExprItem) → to_step (from_step s) ≡ s
to_step-from_step (Number value) = refl
to_step-from_step Pi = refl
to_step-from_step Negate = refl
to_step-from_step (Binary Add) = refl
to_step-from_step (Binary Subtract) = refl
to_step-from_step (Binary Multiply) = refl
to_step-from_step (Binary Divide) = refl
to_step-from_step (Parameter i) = refl

abbrev step_code : Coded ExprItem
step_code = code_by (Option Ratio ⊎ ℕ) (coded⊎ (coded_option ratio_code) coded_ℕ) from_step to_step to_step-from_step

abbrev pub tree_code : Coded Tree
tree_code = code_by (List ExprItem) (coded_list step_code) postfix tree_of tree_of-postfix
