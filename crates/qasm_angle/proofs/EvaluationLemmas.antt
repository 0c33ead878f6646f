-- Evaluation of the steps of a tree, one after the other, gives the tree's value.
use Rattle.std.proofs.Common.{◌≡◌, ap₂, false, ℕ, suc, ◌<◌, ◌≤◌, List, [], ◌∷◌, ◌++◌, length, get_or, drop, Result, Ok, Err, refl, sym, ◌∙◌, ap, append_assoc, append-nil, drop-cons, length-append, arith}
use Rattle.std.specs.List.{list_any}
use Rattle.std.proofs.lemmas.Bool.{or_parts}
use Rattle.std.proofs.lemmas.List.Folds.{list_any-append}
use Rattle.std.proofs.Math.ListN.{drop_of_length-le}
use Rattle.qasm_angle.specs.Trees.{Tree, Parameter, Negate, Binary, postfix}
use Rattle.qasm_angle.specs.Values.{value, of_opposite, of_operands}
use Rattle.qasm_angle.specs.Internal.Constants.{is_parameter}
use Rattle.qasm_angle.specs.Internal.Stack.{stepped, on_top}
use Rattle.qasm_angle.specs.declared.angle.Angle.{Angle}
use Rattle.qasm_angle.specs.Errors.{error_of}
use Rattle.qasm_angle.specs.declared.errors.AngleFault.{AngleFault}
use Rattle.qasm_angle.specs.declared.errors.AngleFault.TheVariants as cause
use Rattle.qasm_angle.specs.declared.expression.Operation.{Operation}
use Rattle.qasm_angle.specs.declared.expression.ExprItem.{ExprItem}
use Rattle.qasm_angle.specs.declared.expression.ExprItem.TheVariants as step

abbrev pub and_then : Result (List Angle) AngleFault → (List Angle → Result (List Angle) AngleFault) → Result (List Angle) AngleFault
and_then (Ok angles) f = f angles
and_then (Err c) f = Err c

-- the angles that are there after these steps, the last one first
abbrev pub run : List Angle → List ExprItem → List Angle → Result (List Angle) AngleFault
run args [] angles = Ok angles
run args (s ∷ steps) angles = and_then (stepped s args angles) (run args steps)

-- the angle of a tree comes on top
abbrev after : List Angle → List ExprItem → List Angle → Result Angle AngleFault → Result (List Angle) AngleFault
after args steps angles r = and_then (on_top r angles) (run args steps)

after-opposite : (args : List Angle) (steps : List ExprItem) (angles : List Angle) (r : Result Angle AngleFault) →
    after args (step.Negate ∷ steps) angles r ≡ after args steps angles (of_opposite r)
after-opposite args steps angles (Ok a) = refl
after-opposite args steps angles (Err c) = refl

after-operands : (args : List Angle) (steps : List ExprItem) (angles : List Angle) (operator : Operation) (a : Angle) (r : Result Angle AngleFault) →
    after args (step.Binary operator ∷ steps) (a ∷ angles) r ≡ after args steps angles (of_operands operator (Ok a) r)
after-operands args steps angles operator a (Ok b) = refl
after-operands args steps angles operator a (Err c) = refl

-- the right operand's steps, given what they do, and then the operator
after-right : (args : List Angle) (right steps : List ExprItem) (angles : List Angle) (operator : Operation) (b : Result Angle AngleFault) →
    ((a : Angle) → run args right (a ∷ angles) ≡ after args (step.Binary operator ∷ steps) (a ∷ angles) b) →
    (a : Result Angle AngleFault) → after args right angles a ≡ after args steps angles (of_operands operator a b)
after-right args right steps angles operator b h (Ok a) = h a ∙ after-operands args steps angles operator a b
after-right args right steps angles operator b h (Err c) = refl

run-postfix : (t : Tree) (args : List Angle) (steps : List ExprItem) (angles : List Angle) →
    run args (postfix t ++ steps) angles ≡ after args steps angles (value t args)
run-postfix (Negate a) args steps angles =
    ap (λ s. run args s angles) (append_assoc (postfix a) (step.Negate ∷ []) steps) ∙ run-postfix a args (step.Negate ∷ steps) angles ∙ after-opposite args steps angles (value a args)
run-postfix (Binary operator a b) args steps angles =
    ap (λ s. run args s angles) (append_assoc (postfix a ++ postfix b) (step.Binary operator ∷ []) steps ∙ append_assoc (postfix a) (postfix b) (step.Binary operator ∷ steps))
    ∙ run-postfix a args (postfix b ++ step.Binary operator ∷ steps) angles
    ∙ after-right args (postfix b ++ step.Binary operator ∷ steps) steps angles operator (value b args) (λ x. run-postfix b args (step.Binary operator ∷ steps) (x ∷ angles)) (value a args)
run-postfix _ args steps angles = refl

alone : (args : List Angle) (r : Result Angle AngleFault) → after args [] [] r ≡ on_top r []
alone args (Ok a) = refl
alone args (Err c) = refl

-- the steps of a tree leave its angle alone
run-tree : (t : Tree) (args : List Angle) → run args (postfix t) [] ≡ on_top (value t args) []
run-tree t args = ap (λ s. run args s []) (sym (append-nil (postfix t))) ∙ run-postfix t args [] [] ∙ alone args (value t args)

-- one list of steps after the other
run-append : (args : List Angle) (first then : List ExprItem) (angles : List Angle) → run args (first ++ then) angles ≡ and_then (run args first angles) (run args then)
run-append args [] then angles = refl
run-append args (s ∷ first) then angles = go (stepped s args angles) (run-append args first then) where
  go : (r : Result (List Angle) AngleFault) → ((next : List Angle) → run args (first ++ then) next ≡ and_then (run args first next) (run args then))
      → and_then r (run args (first ++ then)) ≡ and_then (and_then r (run args first)) (run args then)
  go (Ok next) same = same next
  go (Err c) same = refl

-- what is on top of nothing, and what is on top of others
on_top-same : (args : List Angle) (a b : Result Angle AngleFault) (angles : List Angle) → on_top a [] ≡ and_then (on_top b angles) (run args []) → a ≡ b
on_top-same args (Ok a) (Ok b) angles e = cc
on_top-same args (Ok a) (Err c) angles e = cc
on_top-same args (Err c) (Ok b) angles e = cc
on_top-same args (Err c) (Err d) angles e = cc

on_top-err : (r : Result Angle AngleFault) (c : AngleFault) → on_top r [] ≡ Err c → r ≡ Err c
on_top-err (Ok b) c e = cc
on_top-err (Err d) c e = cc

pub some_steps : (t : Tree) → 0 < length (postfix t)
some_steps (Negate a) = omega (arith, length-append (postfix a) (step.Negate ∷ []))
some_steps (Binary operator a b) = omega (arith, length-append (postfix a ++ postfix b) (step.Binary operator ∷ []))
some_steps _ = omega arith

-- the steps before the last one, of which some are done
module _ (t : Tree) (args : List Angle) (steps before : List ExprItem) (last : ExprItem) (i : ℕ) (angles : List Angle) (is : steps ≡ postfix t) (cut : steps ≡ before ++ last ∷ []) (so_far : run args (drop i before) angles ≡ run args before []) where
  at_end : on_top (value t args) [] ≡ and_then (run args before []) (run args (last ∷ []))
  at_end = sym (run-tree t args) ∙ ap (λ s. run args s []) (sym is ∙ cut) ∙ run-append args before (last ∷ []) []

  -- what the last step puts on top is the value
  pub value-last : length before ≤ i → (r : Result Angle AngleFault) (rest : List Angle) → on_top r rest ≡ stepped last args angles → value t args ≡ r
  value-last h r rest e =
      let done : run args before [] ≡ Ok angles = sym so_far ∙ ap (λ s. run args s angles) (drop_of_length-le before h) in
      on_top-same args (value t args) r rest (at_end ∙ ap (λ q. and_then q (run args (last ∷ []))) done ∙ ap (λ q. and_then q (run args [])) (sym e))

  -- the next step fails
  pub value-failed : (s : ExprItem) (c : AngleFault) → i < length before → s ≡ get_or before i s → stepped s args angles ≡ Err c → value t args ≡ Err c
  value-failed s c h at e =
      let next : run args before [] ≡ Err c =
      sym so_far ∙ ap (λ x. run args x angles) (drop-cons before i s h ∙ ap (λ x. x ∷ drop (suc i) before) (sym at)) ∙ ap (λ r. and_then r (run args (drop (suc i) before))) e in
      on_top-err (value t args) c (at_end ∙ ap (λ q. and_then q (run args (last ∷ []))) next)

-- a tree that names no parameter is the same for all arguments
pub value-constant : (t : Tree) (args : List Angle) → list_any is_parameter (postfix t) ≡ false → value t args ≡ value t []
value-constant (Parameter i) args h = absurd (cc)
value-constant (Negate a) args h =
    ap of_opposite (value-constant a args (or_parts _ _ (sym (list_any-append is_parameter (postfix a) (step.Negate ∷ [])) ∙ h)).0)
value-constant (Binary operator a b) args h =
    let both = or_parts _ _ (sym (list_any-append is_parameter (postfix a ++ postfix b) (step.Binary operator ∷ [])) ∙ h) in
    let each = or_parts _ _ (sym (list_any-append is_parameter (postfix a) (postfix b)) ∙ both.0) in
    ap₂ (of_operands operator) (value-constant a args each.0) (value-constant b args each.1)
value-constant _ args h = refl

-- the cause that an error stands for
pub error_of-same : (c d : AngleFault) → error_of c ≡ error_of d → c ≡ d
error_of-same cause.Divide cause.Divide e = refl
error_of-same cause.TooLarge cause.TooLarge e = refl
error_of-same cause.NotAnAngle cause.NotAnAngle e = refl
error_of-same _ _ e = cc

-- an error that two results of one type share
pub Err_same : {T E : Type 0} {x y : E} → ◌≡◌ {A = Result T E} (Err x) (Err y) → x ≡ y
Err_same e = cc
