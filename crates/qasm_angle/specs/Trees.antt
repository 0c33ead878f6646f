-- Expressions as trees, and their steps in postfix order.
use Rattle.std.specs.Prelude.{◌≡◌, ℕ, List, [], ◌∷◌, ◌++◌, Option, get_or, refl}
use Rattle.std.proofs.Common.{append_assoc, append-nil, ap, sym, ◌∙◌}
use Rattle.qasm_angle.specs.Ratio.{Ratio}
use Rattle.qasm_angle.specs.declared.expression.Operation.{Operation}
use Rattle.qasm_angle.specs.declared.expression.ExprItem.{ExprItem}
use Rattle.qasm_angle.specs.declared.expression.ExprItem.TheVariants as step

-- An expression. A number is known by its value, or none where it is past the limits.
pub data Tree : Type 0 where
  Number : Option Ratio → Tree
  Pi : Tree
  Parameter : ℕ → Tree
  Negate : Tree → Tree
  Binary : Operation → Tree → Tree → Tree

-- the steps of an expression: each operator stands after its operands
abbrev pub postfix : Tree → List ExprItem
postfix (Number value) = step.Number value ∷ []
postfix Pi = step.Pi ∷ []
postfix (Parameter i) = step.Parameter i ∷ []
postfix (Negate a) = postfix a ++ step.Negate ∷ []
postfix (Binary operator a b) = postfix a ++ postfix b ++ step.Binary operator ∷ []

-- The trees that are there after a step, the last one first. An operator takes its operands from the start.
abbrev pub after_step : ExprItem → List Tree → List Tree
after_step (step.Number value) trees = Number value ∷ trees
after_step step.Pi trees = Pi ∷ trees
after_step (step.Parameter i) trees = Parameter i ∷ trees
after_step step.Negate [] = []
after_step step.Negate (a ∷ trees) = Negate a ∷ trees
after_step (step.Binary operator) [] = []
after_step (step.Binary operator) (b ∷ []) = []
after_step (step.Binary operator) (b ∷ a ∷ trees) = Binary operator a b ∷ trees

abbrev pub after_steps : List ExprItem → List Tree → List Tree
after_steps [] trees = trees
after_steps (s ∷ steps) trees = after_steps steps (after_step s trees)

-- the tree whose steps these are, where there is one
unfoldable pub tree_of : List ExprItem → Tree
tree_of steps = get_or (after_steps steps []) 0 Pi

-- reading the steps of a tree adds that tree
pub after_steps-postfix : (t : Tree) (steps : List ExprItem) (trees : List Tree) →
    after_steps (postfix t ++ steps) trees ≡ after_steps steps (t ∷ trees)
after_steps-postfix (Number value) steps trees = refl
after_steps-postfix Pi steps trees = refl
after_steps-postfix (Parameter i) steps trees = refl
after_steps-postfix (Negate a) steps trees =
    ap (λ s. after_steps s trees) (append_assoc (postfix a) (step.Negate ∷ []) steps)
    ∙ after_steps-postfix a (step.Negate ∷ steps) trees
after_steps-postfix (Binary operator a b) steps trees =
    ap (λ s. after_steps s trees) (append_assoc (postfix a ++ postfix b) (step.Binary operator ∷ []) steps
    ∙ append_assoc (postfix a) (postfix b) (step.Binary operator ∷ steps))
    ∙ after_steps-postfix a (postfix b ++ step.Binary operator ∷ steps) trees
    ∙ after_steps-postfix b (step.Binary operator ∷ steps) (a ∷ trees)

-- the tree of a tree's steps is that tree
pub tree_of-postfix : (t : Tree) → tree_of (postfix t) ≡ t
unfolding tree_of
tree_of-postfix t =
    ap (λ trees. get_or trees 0 Pi)
    (ap (λ steps. after_steps steps []) (sym (append-nil (postfix t))) ∙ after_steps-postfix t [] [])

pub tree_of-steps : (steps : List ExprItem) (t : Tree) → steps ≡ postfix t → tree_of steps ≡ t
tree_of-steps steps t e = ap tree_of e ∙ tree_of-postfix t
