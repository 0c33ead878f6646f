-- Linear maps of gate lists: lists one after another, and phase gates on one qubit.
use Rattle.std.proofs.Common.{◌≡◌, ℕ, Bool, true, false, List, [], ◌∷◌, ◌++◌, refl, sym, ap, ◌∙◌, set}
use Rattle.std.proofs.lemmas.List.{set-get_or}
use Rattle.zx_model.specs.Phase.{sum_of_phases}
use Rattle.zx_model.specs.Number.{Number, one, add, mul, root_power}
use Rattle.zx_model.specs.Bits.{bit}
use Rattle.zx_model.proofs.Ring.{zero-mul, zero-add, add-zero, one-mul, mul_assoc}
use Rattle.zx_model.proofs.Powers.{root_power-sum_of_phases}
use Rattle.zx_gates.specs.Maps.{amp, act, acts, phase}
use Rattle.zx_gates.specs.declared.gate.Gate.{Gate}
use Rattle.zx_gates.specs.declared.gate.Gate.TheVariants.{Phase}

-- an entry is what the gates make of the entry of the empty list
pub amp-acts : (gates : List Gate) (x y : List Bool) → amp gates x y ≡ acts gates (λ z. amp [] z y) x
amp-acts [] x y = refl
amp-acts (gate ∷ gates) x y = λ i. act gate (λ z. amp-acts gates z y i) x

pub acts-append : (first second : List Gate) (f : List Bool → Number) → acts (first ++ second) f ≡ acts first (acts second f)
acts-append [] second f = refl
acts-append (gate ∷ first) second f = ap (act gate) (acts-append first second f)

-- of the two terms of a diagonal matrix one is left
diagonal : (k : ℕ) (b : Bool) (at : Bool → Number) → add (mul (phase k false b) (at false)) (mul (phase k true b) (at true)) ≡ mul (phase k b b) (at b)
diagonal k false at = ap (add (mul one (at false))) (zero-mul (at true)) ∙ add-zero _
diagonal k true at = ap (λ t. add t (mul (root_power k) (at true))) (zero-mul (at false)) ∙ zero-add _

-- a phase gate multiplies by its phase where the bit is 1
pub act-phase : (q k : ℕ) (f : List Bool → Number) (x : List Bool) → act (Phase q k) f x ≡ mul (phase k (bit x q) (bit x q)) (f x)
act-phase q k f x =
    diagonal k (bit x q) (λ b. f (set x q b)) ∙ ap (λ z. mul (phase k (bit x q) (bit x q)) (f z)) (set-get_or x q false)

phase-sum : (j k : ℕ) (b : Bool) → mul (phase j b b) (phase k b b) ≡ phase (sum_of_phases j k) b b
phase-sum j k false = one-mul one
phase-sum j k true = sym (root_power-sum_of_phases j k)

pub act-phase-phase : (q j k : ℕ) (f : List Bool → Number) → act (Phase q j) (act (Phase q k) f) ≡ act (Phase q (sum_of_phases j k)) f
act-phase-phase q j k f = λ i x. at x i
  where
    at : (x : List Bool) → act (Phase q j) (act (Phase q k) f) x ≡ act (Phase q (sum_of_phases j k)) f x
    at x =
        act-phase q j (act (Phase q k) f) x
        ∙ ap (mul (phase j (bit x q) (bit x q))) (act-phase q k f x)
        ∙ sym (mul_assoc (phase j (bit x q) (bit x q)) (phase k (bit x q) (bit x q)) (f x))
        ∙ ap (λ t. mul t (f x)) (phase-sum j k (bit x q))
        ∙ sym (act-phase q (sum_of_phases j k) f x)

phase-zero : (b : Bool) → phase 0 b b ≡ one
unfolding root_power
phase-zero false = refl
phase-zero true = refl

-- a phase gate of phase 0 does nothing
pub act-phase-zero : (q : ℕ) (f : List Bool → Number) → act (Phase q 0) f ≡ f
act-phase-zero q f = λ i x. at x i
  where
    at : (x : List Bool) → act (Phase q 0) f x ≡ f x
    at x = act-phase q 0 f x ∙ ap (λ t. mul t (f x)) (phase-zero (bit x q)) ∙ one-mul (f x)
