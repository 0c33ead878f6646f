-- No circuit's map is zero: where what gates make of a function is 0 everywhere, the function is.
use Rattle.std.proofs.Common.{◌≡◌, ◌≢◌, ℕ, ◌<◌, Bool, true, false, not, cond, eqb, ◌&&◌, List, [], ◌∷◌, ◌++◌, length, set, replicate, refl, sym, ap, ap₂, subst, ◌∙◌, arith}
use Rattle.std.specs.List.{All}
use Rattle.std.proofs.lemmas.List.{set-set, set-get_or, get_or-set_same, get_or-set_other, length-set, length-replicate}
use Rattle.std.proofs.lemmas.List.Elements.{All-head, All-tail}
use Rattle.zx_model.specs.Phase.{half_turn, quarter_turn, sum_of_phases, opposite_phase}
use Rattle.zx_model.specs.Number.{Number, zero, one, add, neg, mul, sign, root_power}
use Rattle.zx_model.specs.Constants.{two}
use Rattle.zx_model.specs.Bits.{xor, bit}
use Rattle.zx_model.specs.Proportional.{Proportional}
use Rattle.zx_model.proofs.BitLemmas.{xor-same, xor-xor}
use Rattle.zx_model.proofs.Ring.{expand, add_comm, add-zero, add-neg, one-mul, mul-zero, mul_assoc, mul-sign_same, one_nonzero, two_nonzero}
use Rattle.zx_model.proofs.Domain.{mul_left_cancel}
use Rattle.zx_model.proofs.Powers.{root_power-nonzero}
use Rattle.zx_gates.specs.Circuit.{IsOnQubits}
use Rattle.zx_gates.specs.Elementary.{IsElementaryGateOn, difference_of_phases}
use Rattle.zx_gates.specs.ElementaryMaps.{amp_elementary}
use Rattle.zx_gates.specs.Lowering.{phase_gates, lowered_gate, lowered}
use Rattle.zx_gates.specs.Maps.{amp, act, acts, same_bits, IsZeroRow, IsZeroMap}
use Rattle.zx_gates.specs.declared.gate.Gate.{Gate}
use Rattle.zx_gates.specs.declared.gate.Gate.TheVariants.{H, Phase, Cz, Cx, Not}
use Rattle.zx_gates.specs.declared.elementary.ElementaryGate.{ElementaryGate}
use Rattle.zx_gates.specs.declared.elementary.ElementaryGate.TheVariants.{U}
use Rattle.zx_gates.specs.declared.elementary.ElementaryGate.TheVariants as elementary
use Rattle.zx_gates.proofs.LoweringLemmas.{by_angle, proportional_lowered}
use Rattle.zx_gates.proofs.MapLemmas.{amp-acts, acts-append}
use Rattle.zx_gates.proofs.UnitaryLemmas.{turned, mixed, exchanged, set_phase, set_hadamard, set_exchange}

-- 0 on all lists of n bits
abbrev pub Vanishes : ℕ → (List Bool → Number) → Type 0
Vanishes n f = (x : List Bool) → length x ≡ n → f x ≡ zero

-- no function but 0 is taken to 0
abbrev pub IsInjective : ℕ → ((List Bool → Number) → List Bool → Number) → Type 0
IsInjective n F = (f : List Bool → Number) → Vanishes n (F f) → Vanishes n f

cancel : (d t : Number) → d ≢ zero → mul d t ≡ zero → t ≡ zero
cancel d t nonzero e = mul_left_cancel d t zero nonzero (e ∙ sym (mul-zero d))

-- ---- one bit
sum_twice : (s t : Number) → mul two s ≡ add (add s t) (add s (neg t))
sum_twice s t = simp expand

turned_round : (s t : Number) → add t (neg s) ≡ neg (add s (neg t))
turned_round s t = simp expand

difference_twice : (s t : Number) → mul two t ≡ add (add s t) (neg (add s (neg t)))
difference_twice s t = sum_twice t s ∙ ap₂ add (add_comm t s) (turned_round s t)

from_mixed : (g : Bool → Number) → ((b : Bool) → mixed g b ≡ zero) → (b : Bool) → g b ≡ zero
from_mixed g e false =
    cancel two (g false) two_nonzero (sum_twice (g false) (g true) ∙ ap₂ add (e false) (e true) ∙ add-zero zero)
from_mixed g e true =
    cancel two (g true) two_nonzero
    (difference_twice (g false) (g true) ∙ ap₂ (λ s t. add s (neg t)) (e false) (e true) ∙ add-neg zero)

from_turned : (p : Number) → p ≢ zero → (g : Bool → Number) → ((b : Bool) → turned p g b ≡ zero) → (b : Bool) → g b ≡ zero
from_turned p nonzero g e false = e false
from_turned p nonzero g e true = cancel p (g true) nonzero (e true)

from_exchanged : (g : Bool → Number) → ((b : Bool) → exchanged g b ≡ zero) → (b : Bool) → g b ≡ zero
from_exchanged g e false = e true
from_exchanged g e true = e false

-- ---- one gate
-- a function is 0 where it is with either value of a bit
at_each : (q : ℕ) (f : List Bool → Number) (x : List Bool) → ((b : Bool) → f (set x q b) ≡ zero) → f x ≡ zero
at_each q f x each = sym (ap f (set-get_or x q false)) ∙ each (bit x q)

module _ (n q : ℕ) (lt : q < n) where
  injective-hadamard : IsInjective n (act (H q))
  injective-hadamard f v x l =
      let g : Bool → Number = λ b. f (set x q b) in
      at_each q f x (from_mixed g (λ b. sym (set_hadamard q f g x (omega (arith, l, lt)) (λ c. refl) b) ∙ v (set x q b) (length-set x q b ∙ l)))

  injective-phase : (k : ℕ) → IsInjective n (act (Phase q k))
  injective-phase k f v x l =
      let g : Bool → Number = λ b. f (set x q b) in
      at_each q f x (from_turned (root_power k) (root_power-nonzero k) g
      (λ b. sym (set_phase q k f g x (omega (arith, l, lt)) (λ c. refl) b) ∙ v (set x q b) (length-set x q b ∙ l)))

  injective-not : IsInjective n (act (Not q))
  injective-not f v x l =
      let g : Bool → Number = λ b. f (set x q b) in
      at_each q f x (from_exchanged g (λ b. sym (set_exchange q f g x (omega (arith, l, lt)) (λ c. refl) b) ∙ v (set x q b) (length-set x q b ∙ l)))

injective-cz : (n q r : ℕ) → IsInjective n (act (Cz q r))
injective-cz n q r f v x l =
    let b : Bool = bit x q && bit x r in
    sym (one-mul (f x)) ∙ ap (λ t. mul t (f x)) (sym (mul-sign_same b)) ∙ mul_assoc (sign b) (sign b) (f x) ∙ ap (mul (sign b)) (v x l) ∙ mul-zero (sign b)

-- the control's bit is added once more
injective-cx : (n control target : ℕ) → target < n → control ≢ target → IsInjective n (act (Cx control target))
injective-cx n control target lt apart f v x l =
    at_each target f x (λ b. sym (ap f (again b)) ∙ v (before b) (length-set x target _ ∙ l))
  where
    before : Bool → List Bool
    before b = set x target (xor (bit x control) b)

    again : (b : Bool) → set (before b) target (xor (bit (before b) control) (bit (before b) target)) ≡ set x target b
    again b =
        set-set x target (xor (bit x control) b) _
        ∙ ap (set x target)
        (ap₂ xor (get_or-set_other x target control (xor (bit x control) b) false apart) (get_or-set_same x target (xor (bit x control) b) false (omega (arith, l, lt)))
        ∙ xor-xor (bit x control) b)

injective_gate : (n : ℕ) (gate : Gate) → IsOnQubits n gate → IsInjective n (act gate)
injective_gate n (H q) on = injective-hadamard n q on
injective_gate n (Phase q k) on = injective-phase n q on.0 k
injective_gate n (Cz q r) on = injective-cz n q r
injective_gate n (Cx control target) on = injective-cx n control target on.1 on.2
injective_gate n (Not q) on = injective-not n q on

-- ---- lists of gates
pub injective_gates : (n : ℕ) (gates : List Gate) → All (IsOnQubits n) gates → IsInjective n (acts gates)
injective_gates n [] on f v = v
injective_gates n (gate ∷ gates) on f v =
    injective_gates n gates (All-tail (IsOnQubits n) gate gates on) f
    (injective_gate n gate (All-head (IsOnQubits n) gate gates on) (acts gates f) v)

injective-append : (n : ℕ) (first second : List Gate) → IsInjective n (acts first) → IsInjective n (acts second) → IsInjective n (acts (first ++ second))
injective-append n first second p s f v = s f (p (acts second f) (subst (Vanishes n) (acts-append first second f) v))

-- the gates that stand for U
module _ (n q : ℕ) (lt : q < n) where
  phases : (k : ℕ) → IsInjective n (acts (phase_gates q k))
  phases k = at (eqb k 0)
    where
      at : (none : Bool) → IsInjective n (acts (cond none [] (Phase q k ∷ [])))
      at true = λ f v. v
      at false = injective-phase n q lt k

  then_phases : (k : ℕ) → IsInjective n (acts (H q ∷ phase_gates q k))
  then_phases k f v = phases k f (injective-hadamard n q lt (acts (phase_gates q k) f) v)

  turns : (j k : ℕ) → IsInjective n (acts (phase_gates q j ++ H q ∷ phase_gates q k))
  turns j k = injective-append n (phase_gates q j) (H q ∷ phase_gates q k) (phases j) (then_phases k)

  injective-unitary : (a b c : ℕ) → IsInjective n (acts (lowered_gate (U q a b c)))
  injective-unitary a b c =
      by_angle (λ gates. IsInjective n (acts gates)) q a b c
      (λ e. phases (sum_of_phases b c))
      (λ e. turns (sum_of_phases c half_turn) b)
      (λ e. let k = sum_of_phases (difference_of_phases c b) half_turn in
      injective-append n (phase_gates q k) (Not q ∷ []) (phases k) (injective-not n q lt))
      (λ e. turns c (sum_of_phases b half_turn))
      (λ d e g h. let j = sum_of_phases c (opposite_phase quarter_turn) in
      injective-append n (phase_gates q j ++ H q ∷ phase_gates q a) (H q ∷ phase_gates q (sum_of_phases b quarter_turn))
      (turns j a) (then_phases (sum_of_phases b quarter_turn)))

injective_lowered : (n : ℕ) (gates : List ElementaryGate) → All (IsElementaryGateOn n) gates → IsInjective n (acts (lowered gates))
injective_lowered n [] on = λ f v. v
injective_lowered n (gate ∷ gates) on =
    injective-append n (lowered_gate gate) (lowered gates) (first gate (All-head (IsElementaryGateOn n) gate gates on))
    (injective_lowered n gates (All-tail (IsElementaryGateOn n) gate gates on))
  where
    first : (gate : ElementaryGate) → IsElementaryGateOn n gate → IsInjective n (acts (lowered_gate gate))
    first (U q a b c) lt = injective-unitary n q lt a b c
    first (elementary.Cx control target) is = injective-cx n control target is.1 is.2

-- ---- entries
same-self : (x : List Bool) → same_bits x x ≡ true
same-self [] = refl
same-self (b ∷ x) = ap₂ (λ s t. not s && t) (xor-same b) (same-self x)

no_row : (n : ℕ) (gates : List Gate) → IsInjective n (acts gates) → (y : List Bool) → length y ≡ n → ¬ IsZeroRow n (amp gates) y
no_row n gates injective y ly row =
    one_nonzero
    (sym (ap (λ b. cond b one zero) (same-self y))
    ∙ injective (λ z. amp [] z y) (λ x lx. sym (amp-acts gates x y) ∙ row x lx) y ly)

pub no_zero_row : (n : ℕ) (gates : List Gate) → All (IsOnQubits n) gates → (y : List Bool) → length y ≡ n → ¬ IsZeroRow n (amp gates) y
no_zero_row n gates on = no_row n gates (injective_gates n gates on)

pub no_zero_row_elementary : (n : ℕ) (gates : List ElementaryGate) → All (IsElementaryGateOn n) gates → (y : List Bool) → length y ≡ n
    → ¬ IsZeroRow n (amp_elementary gates) y
no_zero_row_elementary n gates on y ly row =
    let p : Proportional n n (amp_elementary gates) (amp (lowered gates)) = proportional_lowered n gates on in
    no_row n (lowered gates) (injective_lowered n gates on) y ly
    (λ x lx. cancel p.right (amp (lowered gates) x y) p.right_nonzero (sym (p.equal x y lx ly) ∙ ap (mul p.left) (row x lx) ∙ mul-zero p.left))

pub not_zero_map : (n : ℕ) (map : List Bool → List Bool → Number) → ((y : List Bool) → length y ≡ n → ¬ IsZeroRow n map y) → ¬ IsZeroMap n map
not_zero_map n map none is =
    let y : List Bool = replicate n false in
    none y (length-replicate n false) (is y (length-replicate n false))
