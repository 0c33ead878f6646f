-- Stacks on whose top something is pushed.
use Rattle.std.proofs.Common.{◌≡◌, ℕ, suc, ◌+◌, ◌-◌, ◌<◌, ◌≤◌, List, [], ◌∷◌, ◌++◌, length, min, get_or, take, drop, drop-cons, add-one, Result, Ok, Err, refl, sym, ap, ◌∙◌, append_assoc, arith}
use Rattle.std.proofs.lemmas.List.{drop-take, length-take, take-append-le}
use Rattle.qasm_angle.specs.declared.angle.Angle.{Angle}
use Rattle.qasm_angle.specs.Trees.{Tree}
use Rattle.qasm_angle.specs.Values.{value}
use Rattle.qasm_scope.specs.Angles.{in_prefix, with_cause}
use Rattle.qasm_scope.specs.declared.causes.Cause.{Cause}
use Rattle.qasm_unroll.specs.Internal.KeptCalls.{followed, values_of}

-- what was there is there still
still-within : {A : Type 0} (top : ℕ) (items old : List A) → take top items ≡ old → top ≡ length old → top ≤ length items
still-within top items old e et =
    let n : min top (length items) ≡ length old = sym (length-take top items) ∙ ap length e in
    omega (arith, n, et)

pub still-pushed : {A : Type 0} (top : ℕ) (items old : List A) (x : A) → take top items ≡ old → top ≡ length old → take top (items ++ x ∷ []) ≡ old
still-pushed top items old x e et = take-append-le top items (x ∷ []) (still-within top items old e et) ∙ e

-- what lies above a base is what lay there
pub still-above : {A : Type 0} (base top : ℕ) (items old : List A) → take top items ≡ old → top ≡ length old → base ≤ length old
    → take (top - base) (drop base items) ≡ drop base old
still-above base top items old e et h =
    let n : base + (top - base) ≡ top = omega (arith, h, et) in
    sym (drop-take base (top - base) items) ∙ ap (λ k. drop base (take k items)) n ∙ ap (drop base) e

-- a value that is pushed, and those that follow
followed-next : (done : List Angle) (value : Angle) (r : Result (List Angle) Cause) → followed done (in_prefix (Ok value) r) ≡ followed (done ++ value ∷ []) r
followed-next done value (Ok more) = ap Ok (sym (append_assoc done (value ∷ []) more))
followed-next done value (Err cause) = refl

-- what is wrong with a value that follows
followed-wrong : (old : List Angle) (r : Result (List Angle) Cause) (cause : Cause) → followed old r ≡ Err cause → r ≡ Err cause
followed-wrong old (Ok values) cause e = absurd (cc)
followed-wrong old (Err other) cause e = e

-- the next value is pushed
pub pushed-next : (items own part : List Angle) (es : List Tree) (i : ℕ) (e : Tree) (value' : Angle) → i < length es → e ≡ get_or es i e → part ≡ own → with_cause (value e part) ≡ Ok value'
    → followed items (values_of (drop i es) own) ≡ followed (items ++ value' ∷ []) (values_of (drop (i + 1) es) own)
pushed-next items own part es i e value' h ee ep ev =
    ap (λ ts. followed items (values_of ts own)) (drop-cons es i e h ∙ ap (λ t. t ∷ drop (suc i) es) (sym ee))
    ∙ ap (λ r. followed items (in_prefix r (values_of (drop (suc i) es) own))) (ap (λ angles. with_cause (value e angles)) (sym ep) ∙ ev)
    ∙ followed-next items value' (values_of (drop (suc i) es) own)
    ∙ ap (λ n. followed (items ++ value' ∷ []) (values_of (drop n es) own)) (sym (add-one i))

-- the next value is wrong
pub pushed-wrong : (old items own part : List Angle) (es : List Tree) (i : ℕ) (e : Tree) (cause : Cause) → i < length es → e ≡ get_or es i e → part ≡ own → with_cause (value e part) ≡ Err cause
    → followed old (values_of es own) ≡ followed items (values_of (drop i es) own) → values_of es own ≡ Err cause
pushed-wrong old items own part es i e cause h ee ep ev k =
    followed-wrong old (values_of es own) cause (k
    ∙ ap (λ ts. followed items (values_of ts own)) (drop-cons es i e h ∙ ap (λ t. t ∷ drop (suc i) es) (sym ee))
    ∙ ap (λ r. followed items (in_prefix r (values_of (drop (suc i) es) own))) (ap (λ angles. with_cause (value e angles)) (sym ep) ∙ ev))

-- values that were pushed
pub followed-values : (old later : List Angle) (r : Result (List Angle) Cause) → followed old r ≡ Ok later → (values : List Angle) × (r ≡ Ok values) × (later ≡ old ++ values)
followed-values old later (Ok values) e = (values, refl, cc)
followed-values old later (Err cause) e = absurd (cc)
