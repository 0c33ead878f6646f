use Rattle.std.proofs.Common.{◌≡◌, [], ◌∷◌, ◌++◌, sym, ◌∙◌, ap}
use Rattle.qasm_angle.specs.Trees.{Tree, Binary, postfix}
use Rattle.qasm_angle.specs.declared.expression.Operation.{Operation}
use Rattle.qasm_angle.specs.declared.expression.ExprItem.{ExprItem}
use Rattle.qasm_angle.specs.declared.expression.ExprItem.TheVariants as step
use Rattle.text_tests.proofs.tests.angles.operation.Goals as goal

-- the steps of an operation on two operands of one step
steps-binary : (operator : Operation) (a b : Tree) (left right : ExprItem) → postfix a ≡ left ∷ [] → postfix b ≡ right ∷ [] →
    left ∷ right ∷ step.Binary operator ∷ [] ≡ postfix (Binary operator a b)
steps-binary operator a b left right e f =
    sym (ap (λ x. x ++ postfix b ++ step.Binary operator ∷ []) e ∙ ap (λ x. (left ∷ []) ++ x ++ step.Binary operator ∷ []) f)

pub new-requires : goal.new-requires
new-requires c = (
  Binary c.args.operator c.step.ensures.0 c.step-2.ensures.0,
  c.in_ok-steps.ensures.items ∙ steps-binary c.args.operator c.step.ensures.0 c.step-2.ensures.0 c.step.result c.step-2.result c.step.ensures.1 c.step-2.ensures.1,
)
