-- Expressions and their items in postfix order.
use Rattle.std.proofs.Common.{◌≡◌, ℕ, ◌+◌, Bool, true, false, ◌||◌, not, if◌then◌else◌, List, [], ◌∷◌, ◌++◌, map, Option, Some, refl, sym, ap, ap₂, subst, ◌∙◌, append_assoc, append-nil}
use Rattle.std.specs.List.{list_any, position_from}
use Rattle.std.specs.Option.{is_some}
use Rattle.std.proofs.Math.Bool.{or-false}
use Rattle.std.proofs.lemmas.List.{map-append}
use Rattle.std.proofs.lemmas.List.Folds.{list_any-append}
use Rattle.qasm_angle.specs.Trees as tree
use Rattle.qasm_angle.specs.declared.expression.ExprItem.{ExprItem}
use Rattle.qasm_angle.specs.declared.expression.ExprItem.TheVariants as step
use Rattle.qasm_reader.specs.declared.expression.Operator.{Operator}
use Rattle.qasm_reader.specs.declared.expression.Operator.TheVariants.{Power}
use Rattle.qasm_reader.specs.Postfix.{Entry, NegateEntry, BinaryEntry, CallEntry, postfix, push_entries, formula_of, first_or_pi, IsPostfix}
use Rattle.qasm_reader.specs.Syntax.{Formula, Name, Negate, Binary, Call}
use Rattle.qasm_scope.specs.Angles.{is_power, is_unsupported, binary, numbered}
use Rattle.qasm_names.specs.declared.places.Places.{Places}
use Rattle.qasm_names.specs.Internal.Entries.{is_unsupported_entry, has_no_place, is_other_entry, operator_of, step_of, AreSteps, IsPlaced}
use Rattle.qasm_names.specs.Places.{place_in}
use Rattle.qasm_scope.specs.Faults.{has_other_name}
use Rattle.qasm_names.proofs.Tests.{or-first, or-second, any_or}

push-postfix : (f : Formula) (entries : List Entry) (operands : List Formula) → push_entries (postfix f ++ entries) operands ≡ push_entries entries (f ∷ operands)
push-postfix (Negate f) entries operands =
    ap (λ es. push_entries es operands) (append_assoc (postfix f) (NegateEntry ∷ []) entries) ∙ push-postfix f (NegateEntry ∷ entries) operands
push-postfix (Binary operator f g) entries operands =
    ap (λ es. push_entries es operands) (append_assoc (postfix f ++ postfix g) (BinaryEntry operator ∷ []) entries ∙ append_assoc (postfix f) (postfix g) (BinaryEntry operator ∷ entries))
    ∙ push-postfix f (postfix g ++ BinaryEntry operator ∷ entries) operands
    ∙ push-postfix g (BinaryEntry operator ∷ entries) (f ∷ operands)
push-postfix (Call function f) entries operands =
    ap (λ es. push_entries es operands) (append_assoc (postfix f) (CallEntry function ∷ []) entries) ∙ push-postfix f (CallEntry function ∷ entries) operands
push-postfix _ entries operands = refl

-- the expression of a postfix order
pub formula-postfix : (f : Formula) → formula_of (postfix f) ≡ f
formula-postfix f = ap first_or_pi (ap (λ es. push_entries es []) (sym (append-nil (postfix f))) ∙ push-postfix f [] [])

or-end : (a b : Bool) → (a || (b || false)) ≡ (b || a)
or-end true true = refl
or-end false true = refl
or-end _ _ = refl

or-three : (a b c : Bool) → ((a || b) || (c || false)) ≡ ((c || a) || b)
or-three true b true = refl
or-three false true true = refl
or-three false false true = refl
or-three _ _ _ = refl

pub unsupported-items : (f : Formula) → list_any is_unsupported_entry (postfix f) ≡ is_unsupported f
unsupported-items (Negate f) =
    list_any-append is_unsupported_entry (postfix f) (NegateEntry ∷ []) ∙ or-end (list_any is_unsupported_entry (postfix f)) false ∙ unsupported-items f
unsupported-items (Binary operator f g) =
    list_any-append is_unsupported_entry (postfix f ++ postfix g) (BinaryEntry operator ∷ [])
    ∙ ap (λ b. b || (is_power operator || false)) (list_any-append is_unsupported_entry (postfix f) (postfix g) ∙ ap (λ b. b || list_any is_unsupported_entry (postfix g)) (unsupported-items f) ∙ ap (λ b. is_unsupported f || b) (unsupported-items g))
    ∙ or-three (is_unsupported f) (is_unsupported g) (is_power operator)
unsupported-items (Call function f) =
    list_any-append is_unsupported_entry (postfix f) (CallEntry function ∷ []) ∙ or-end (list_any is_unsupported_entry (postfix f)) true
unsupported-items _ = refl

pub unplaced-items : (places : Places) (f : Formula) → list_any (has_no_place places) (postfix f) ≡ has_other_name (place_in places) f
unplaced-items places (Name name) = or-false (not (is_some (place_in places name)))
unplaced-items places (Negate f) =
    list_any-append (has_no_place places) (postfix f) (NegateEntry ∷ []) ∙ or-end (list_any (has_no_place places) (postfix f)) false ∙ unplaced-items places f
unplaced-items places (Binary operator f g) =
    list_any-append (has_no_place places) (postfix f ++ postfix g) (BinaryEntry operator ∷ [])
    ∙ ap (λ b. b || (false || false)) (list_any-append (has_no_place places) (postfix f) (postfix g) ∙ ap (λ b. b || list_any (has_no_place places) (postfix g)) (unplaced-items places f) ∙ ap (λ b. has_other_name (place_in places) f || b) (unplaced-items places g))
    ∙ or-three (has_other_name (place_in places) f) (has_other_name (place_in places) g) false
unplaced-items places (Call function f) =
    list_any-append (has_no_place places) (postfix f) (CallEntry function ∷ []) ∙ or-end (list_any (has_no_place places) (postfix f)) false ∙ unplaced-items places f
unplaced-items places _ = refl

-- the same of items that are known to be those of an expression
pub unsupported-entries : (entries : List Entry) → IsPostfix entries → list_any is_unsupported_entry entries ≡ is_unsupported (formula_of entries)
unsupported-entries entries p =
    ap (list_any is_unsupported_entry) p.1 ∙ unsupported-items p.0 ∙ ap is_unsupported (sym (ap formula_of p.1 ∙ formula-postfix p.0))

pub unplaced-entries : (places : Places) (entries : List Entry) → IsPostfix entries → list_any (has_no_place places) entries ≡ has_other_name (place_in places) (formula_of entries)
unplaced-entries places entries p =
    ap (list_any (has_no_place places)) p.1 ∙ unplaced-items places p.0 ∙ ap (has_other_name (place_in places)) (sym (ap formula_of p.1 ∙ formula-postfix p.0))

pub other-entries : (places : Places) (entries : List Entry) → IsPostfix entries
    → list_any (is_other_entry places) entries ≡ (is_unsupported (formula_of entries) || has_other_name (place_in places) (formula_of entries))
other-entries places entries p =
    any_or is_unsupported_entry (has_no_place places) entries ∙ ap₂ ◌||◌ (unsupported-entries entries p) (unplaced-entries places entries p)

binary-steps : (operator : Operator) (a b : tree.Tree) → is_power operator ≡ false
    → tree.postfix a ++ tree.postfix b ++ step.Binary (operator_of operator) ∷ [] ≡ tree.postfix (binary operator a b)
binary-steps Power a b h = absurd (cc)
binary-steps _ a b h = refl

pub placed-steps : (places : Places) (f : Formula) → is_unsupported f ≡ false → map (step_of places) (postfix f) ≡ tree.postfix (numbered (place_in places) f)
placed-steps places (Negate f) h =
    map-append (step_of places) (postfix f) (NegateEntry ∷ []) ∙ ap (λ steps. steps ++ step.Negate ∷ []) (placed-steps places f h)
placed-steps places (Binary operator f g) h =
    map-append (step_of places) (postfix f ++ postfix g) (BinaryEntry operator ∷ [])
    ∙ ap (λ steps. steps ++ step.Binary (operator_of operator) ∷ [])
    (map-append (step_of places) (postfix f) (postfix g)
    ∙ ap (λ steps. steps ++ map (step_of places) (postfix g)) (placed-steps places f (or-second _ _ (or-first _ _ h)))
    ∙ ap (λ steps. tree.postfix (numbered (place_in places) f) ++ steps) (placed-steps places g (or-second _ _ h)))
    ∙ binary-steps operator (numbered (place_in places) f) (numbered (place_in places) g) (or-first _ _ (or-first _ _ h))
placed-steps places (Call function f) h = absurd (cc)
placed-steps places _ h = refl

pub steps-placed : (places : Places) (entries : List Entry) (steps : List ExprItem) → IsPostfix entries → AreSteps places entries steps
    → steps ≡ tree.postfix (numbered (place_in places) (formula_of entries))
steps-placed places entries steps p r =
    let e = ap formula_of p.1 ∙ formula-postfix p.0 in
    let supported = or-first _ _ (sym (other-entries places entries p) ∙ r.none_other) in
    r.same ∙ ap (map (step_of places)) p.1 ∙ placed-steps places p.0 (subst (λ f. is_unsupported f ≡ false) e supported) ∙ ap (λ f. tree.postfix (numbered (place_in places) f)) (sym e)

pub IsPlaced-steps : (places : Places) (entries : List Entry) (steps : List ExprItem) (t : tree.Tree) → IsPostfix entries → AreSteps places entries steps
    → t ≡ numbered (place_in places) (formula_of entries) → IsPlaced places (formula_of entries) t
IsPlaced-steps places entries steps t p r e =
    let clear = sym (other-entries places entries p) ∙ r.none_other in
    record { supported = or-first _ _ clear; all_placed = or-second _ _ clear; same = e }

is_some-place-at : (b : Bool) (i : ℕ) (o : Option ℕ) (rest : Bool) → is_some o ≡ rest → is_some (if b then Some i else o) ≡ (b || rest)
is_some-place-at true i o rest h = refl
is_some-place-at false i o rest h = h

-- a name is among others where it has a place
pub is_some-place : {A : Type 0} (p : A → Bool) (i : ℕ) (xs : List A) → is_some (position_from p i xs) ≡ list_any p xs
is_some-place p i [] = refl
is_some-place p i (x ∷ xs) = is_some-place-at (p x) i (position_from p (i + 1) xs) (list_any p xs) (is_some-place p (i + 1) xs)
