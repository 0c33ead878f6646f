-- The half of the opposite angle is the opposite half, and its phase is the opposite phase.
use Rattle.std.specs.Prelude.{◌≡◌, ℕ, zero, suc, ◌*◌, ◌/◌, ◌%◌, ◌==◌, Bool, true, false, ◌&&◌, if◌then◌else◌, nat_le, ℤ, pos, negsuc, neg_ℤ, ◌*ℤ◌, unsigned_abs, Option, Some, None, option_map, Ok}
use Rattle.std.proofs.Common.{refl, sym, ap, ap₂, ◌∙◌, arith}
use Rattle.zx_model.specs.Phase.{half_turn, opposite_phase}
use Rattle.zx_model.proofs.Whole.{neg-mul}
use lib.IntN.{neg_ℤ-neg_ℤ}
use Rattle.qasm_angle.specs.declared.angle.Angle.{Angle}
use Rattle.qasm_angle.specs.Ratio.{Ratio, gcd, lowest, limited, largest, opposite, quotient, whole}
use Rattle.qasm_angle.specs.Sixteenths.{phase_of_angle, within_a_turn}
use Rattle.qasm_angle.specs.Values.{opposite_angle, of_opposite, of_parts}
use Rattle.header_laws.specs.Calls.{half_of}

abs-neg : (a : ℤ) → unsigned_abs (neg_ℤ a) ≡ unsigned_abs a
abs-neg (pos (suc n)) = refl
abs-neg _ = refl

none-over : (g : ℕ) → 0 / g ≡ 0
none-over g = omega arith

lowest-neg : (a : ℤ) (b : ℕ) → lowest (neg_ℤ a) b ≡ opposite (lowest a b)
unfolding lowest
lowest-neg (pos zero) b =
    ap (λ n. record { numerator = n; denominator = b / gcd 0 b }) (ap pos (none-over (gcd 0 b)) ∙ sym (ap (λ n. neg_ℤ (pos n)) (none-over (gcd 0 b))))
lowest-neg (pos (suc n)) b = refl
lowest-neg (negsuc n) b =
    ap (λ m. record { numerator = m; denominator = b / gcd (suc n) b }) (sym (neg_ℤ-neg_ℤ (pos (suc n / gcd (suc n) b))))

quotient-opposite : (r : Ratio) → quotient (opposite r) (whole (pos 2)) ≡ opposite (quotient r (whole (pos 2)))
quotient-opposite r =
    ap (λ n. lowest n (r.denominator * 2)) (neg-mul r.numerator (pos 1)) ∙ lowest-neg (r.numerator *ℤ pos 1) (r.denominator * 2)

some_if : (b : Bool) (r : Ratio) → (if b then Some (opposite r) else None) ≡ option_map opposite (if b then Some r else None)
some_if true r = refl
some_if false r = refl

limited-opposite : (r : Ratio) → limited (opposite r) ≡ option_map opposite (limited r)
unfolding limited
limited-opposite r =
    ap (λ n. if nat_le n largest && nat_le r.denominator largest then Some (opposite r) else None) (abs-neg r.numerator)
    ∙ some_if (nat_le (unsigned_abs r.numerator) largest && nat_le r.denominator largest) r

of_parts-opposite : (p q : Option Ratio) → of_parts (option_map opposite p) (option_map opposite q) ≡ of_opposite (of_parts p q)
of_parts-opposite (Some a) (Some b) = refl
of_parts-opposite _ _ = refl

half_of-opposite : (a : Angle) → half_of (opposite_angle a) ≡ of_opposite (half_of a)
half_of-opposite a =
    ap₂ (λ r s. of_parts (limited r) (limited s)) (quotient-opposite a.rational) (quotient-opposite a.multiple)
    ∙ ap₂ of_parts (limited-opposite (quotient a.rational (whole (pos 2)))) (limited-opposite (quotient a.multiple (whole (pos 2))))
    ∙ of_parts-opposite (limited (quotient a.rational (whole (pos 2)))) (limited (quotient a.multiple (whole (pos 2))))

pub half-opposite : (a half : Angle) → half_of a ≡ Ok half → half_of (opposite_angle a) ≡ Ok (opposite_angle half)
half-opposite a half e = half_of-opposite a ∙ ap of_opposite e

-- ---- phases
within-neg : (n : ℤ) → within_a_turn (neg_ℤ n) ≡ opposite_phase (within_a_turn n)
within-neg (pos zero) = refl
within-neg _ = omega arith

turns_if : (b : Bool) (n : ℤ) → option_map within_a_turn (if b then Some (neg_ℤ n) else None) ≡ option_map opposite_phase (option_map within_a_turn (if b then Some n else None))
turns_if true n = ap Some (within-neg n)
turns_if false n = refl

phase_if : (zero whole : Bool) (n : ℤ)
    → option_map within_a_turn (if zero then (if whole then Some (neg_ℤ n) else None) else None)
    ≡ option_map opposite_phase (option_map within_a_turn (if zero then (if whole then Some n else None) else None))
phase_if true whole n = turns_if whole n
phase_if false whole n = refl

phase-opposite : (a : Angle) → phase_of_angle (opposite_angle a) ≡ option_map opposite_phase (phase_of_angle a)
unfolding phase_of_angle
phase-opposite a =
    ap₂ (λ r n. option_map within_a_turn (if r == 0 then (if half_turn % a.multiple.denominator == 0 then Some n else None) else None))
    (abs-neg a.rational.numerator) (neg-mul a.multiple.numerator (pos (half_turn / a.multiple.denominator)))
    ∙ phase_if (unsigned_abs a.rational.numerator == 0) (half_turn % a.multiple.denominator == 0) (a.multiple.numerator *ℤ pos (half_turn / a.multiple.denominator))

pub opposite-phase : (a : Angle) (k : ℕ) → phase_of_angle a ≡ Some k → phase_of_angle (opposite_angle a) ≡ Some (opposite_phase k)
opposite-phase a k e = phase-opposite a ∙ ap (option_map opposite_phase) e
