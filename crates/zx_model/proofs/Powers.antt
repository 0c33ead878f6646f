-- Powers of two, and of the root: z is a sixteenth root of one, so exponents are phases.
use Rattle.std.proofs.Common.{◌≡◌, ◌≢◌, ℕ, zero as nought, suc, ◌+◌, ◌-◌, ◌*◌, ◌/◌, ◌%◌, ◌≤◌, sym, ◌∙◌, ap, arith, refl, suc-add, suc-mul, zero-add, zero-mul, true}
use Rattle.zx_model.specs.Cyclotomic.{zero_cyclotomic, eighth_root, add_cyclotomic, neg_cyclotomic, mul_cyclotomic}
use Rattle.zx_model.specs.Number.{Number, zero, one, sixteenth_root, neg, mul, root_power}
use Rattle.zx_model.specs.Phase.{turn, half_turn, sum_of_phases, opposite_phase}
use Rattle.zx_model.specs.Constants.{two}
use Rattle.zx_model.specs.Internal.Powers.{power_of_two}
use Rattle.zx_model.proofs.Ring as Ring
use Rattle.zx_model.proofs.Ring.{one-mul, mul_assoc, unit-nonzero, mul-sign_same}

pub power_of_two-add : (j k : ℕ) → power_of_two (j + k) ≡ mul (power_of_two j) (power_of_two k)
power_of_two-add nought k = ap power_of_two (zero-add k) ∙ sym (one-mul (power_of_two k))
power_of_two-add (suc j) k =
    ap power_of_two (suc-add j k) ∙ ap (mul two) (power_of_two-add j k) ∙ sym (mul_assoc two (power_of_two j) (power_of_two k))

pub root_power-zero : root_power 0 ≡ one
unfolding root_power
root_power-zero = refl

pub root_power-suc : (k : ℕ) → root_power (suc k) ≡ mul sixteenth_root (root_power k)
unfolding root_power
root_power-suc k = refl

pub root_power-add : (j k : ℕ) → root_power (j + k) ≡ mul (root_power j) (root_power k)
root_power-add nought k = ap root_power (zero-add k) ∙ sym (one-mul (root_power k)) ∙ ap (λ x. mul x (root_power k)) (sym root_power-zero)
root_power-add (suc j) k =
    ap root_power (suc-add j k) ∙ root_power-suc (j + k) ∙ ap (mul sixteenth_root) (root_power-add j k) ∙ sym (mul_assoc sixteenth_root (root_power j) (root_power k)) ∙ ap (λ x. mul x (root_power k)) (sym (root_power-suc j))

-- w, which is z*z
pub root_power-two : root_power 2 ≡ record { plain = eighth_root; turned = zero_cyclotomic }
unfolding root_power mul add_cyclotomic mul_cyclotomic
root_power-two = refl

-- w*w*w*w = -1
fourth_power : (w : Number) → w ≡ record { plain = eighth_root; turned = zero_cyclotomic } → mul (mul w w) (mul w w) ≡ neg one
unfolding mul neg add_cyclotomic neg_cyclotomic mul_cyclotomic
fourth_power w e = ap (λ x. mul (mul x x) (mul x x)) e

pub root_power-half_turn : root_power half_turn ≡ neg one
root_power-half_turn =
    root_power-add 4 4 ∙ ap (λ x. mul x x) (root_power-add 2 2) ∙ fourth_power (root_power 2) root_power-two

pub root_power-turn : root_power turn ≡ one
root_power-turn = root_power-add half_turn half_turn ∙ ap (λ x. mul x x) root_power-half_turn ∙ mul-sign_same true

-- whole turns change nothing
root_power-turns : (n : ℕ) → root_power (n * turn) ≡ one
root_power-turns nought = ap root_power (zero-mul turn) ∙ root_power-zero
root_power-turns (suc n) =
    ap root_power (suc-mul n turn) ∙ root_power-add (n * turn) turn ∙ ap (λ x. mul x (root_power turn)) (root_power-turns n) ∙ one-mul (root_power turn) ∙ root_power-turn

pub root_power-mod : (k : ℕ) → root_power (k % turn) ≡ root_power k
root_power-mod k =
    let split : k ≡ k / turn * turn + k % turn = omega arith in
    sym (ap root_power split ∙ root_power-add (k / turn * turn) (k % turn) ∙ ap (λ x. mul x (root_power (k % turn))) (root_power-turns (k / turn)) ∙ one-mul (root_power (k % turn)))

pub root_power-sum_of_phases : (j k : ℕ) → root_power (sum_of_phases j k) ≡ mul (root_power j) (root_power k)
root_power-sum_of_phases j k = root_power-mod (j + k) ∙ root_power-add j k

pub root_power-opposite_phase : (k : ℕ) → k ≤ turn → mul (root_power (opposite_phase k)) (root_power k) ≡ one
root_power-opposite_phase k below =
    let whole : (turn - k) + k ≡ turn = omega arith in
    ap (λ x. mul x (root_power k)) (root_power-mod (turn - k)) ∙ sym (root_power-add (turn - k) k) ∙ ap root_power whole ∙ root_power-turn

pub root_power-nonzero : (k : ℕ) → root_power k ≢ zero
root_power-nonzero k e =
    let phase : k % turn ≤ turn = omega arith in
    unit-nonzero _ _ (root_power-opposite_phase (k % turn) phase) (root_power-mod k ∙ e)
