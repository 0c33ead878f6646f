-- An angle in lowest terms is n*pi/8 exactly where n is its number of sixteenth turns.
use Rattle.std.proofs.Common.{◌≡◌, ℕ, zero, ◌*◌, ◌/◌, ◌%◌, ◌≤◌, Bool, true, false, eqb, cond, ℤ, pos, ◌*ℤ◌, nat_abs, Option, Some, None, refl, sym, ◌∙◌, ap, subst, arith}
use Rattle.std.specs.Prelude.{IfSome, IfNone}
use Rattle.std.proofs.Math.Nat.{mul-div_cancel', dvd_of_mod-eq-zero, mod-eq-zero_of_dvd, dvd-mul_left, mul_comm}
use Rattle.std.proofs.lemmas.Bool.{eqb-true, eqb-false}
use Rattle.std.proofs.lemmas.Int.{unsigned_abs-mul}
use Prim.Native.Nat.{◌∣◌}
use lib.IntN.{*ℤ_comm}
use Rattle.zx_model.proofs.Whole.{mul_assoc}
use Rattle.zx_model.specs.Phase.{half_turn}
use Rattle.qasm_angle.specs.Ratio.{gcd, is_zero, IsFraction}
use Rattle.qasm_angle.specs.Sixteenths.{IsSixteenths, sixteenths_of_multiple}
use Rattle.qasm_angle.specs.declared.angle.Angle.{Angle}
use Rattle.qasm_angle.proofs.GcdLemmas.{divides_other, gcd_comm}

zero_numerator : (a : ℤ) → nat_abs a ≤ 0 → a ≡ pos 0
zero_numerator (pos zero) h = refl
zero_numerator _ h = absurd (omega arith)

-- (a * q) * d = h * a, where q * d is the half turn h
times_quotient : (a : ℤ) (d : ℕ) → half_turn % d ≡ 0 → pos half_turn *ℤ a ≡ (a *ℤ pos (half_turn / d)) *ℤ pos d
times_quotient a d e =
    let whole : (half_turn / d) * d ≡ half_turn = mul_comm (half_turn / d) d ∙ mul-div_cancel' d (dvd_of_mod-eq-zero d e) in
    *ℤ_comm (pos half_turn) a ∙ ap (λ n. a *ℤ pos n) (sym whole) ∙ sym (mul_assoc a (pos (half_turn / d)) (pos d))

-- where h*a = n*d in lowest terms a/d, d divides the half turn h
divides_half_turn : (a : ℤ) (d : ℕ) (n : ℤ) → gcd (nat_abs a) d ≡ 1 → pos half_turn *ℤ a ≡ n *ℤ pos d → half_turn % d ≡ 0
divides_half_turn a d n lowest e =
    let sizes : half_turn * nat_abs a ≡ nat_abs n * d = sym (unsigned_abs-mul (pos half_turn) a) ∙ ap nat_abs e ∙ unsigned_abs-mul n (pos d) in
    let divides : d ∣ half_turn * nat_abs a = subst (λ x. d ∣ x) (sym sizes) (dvd-mul_left d (nat_abs n)) in
    mod-eq-zero_of_dvd d (divides_other d (nat_abs a) half_turn (omega arith) (gcd_comm d (nat_abs a) ∙ lowest) divides)

module _ (a : Angle) (no_rational : is_zero a.rational ≡ true) (fraction : IsFraction a.multiple) where
  some_by : (whole : Bool) → eqb (half_turn % a.multiple.denominator) 0 ≡ whole →
      IfSome (cond whole (Some (a.multiple.numerator *ℤ pos (half_turn / a.multiple.denominator))) None) (λ n. IsSixteenths a n)
  some_by true e = record {
    rational = zero_numerator a.rational.numerator (grind arith);
    multiple = times_quotient a.multiple.numerator a.multiple.denominator (eqb-true _ _ e);
  }
  some_by false e = tt

  none_by : (whole : Bool) → eqb (half_turn % a.multiple.denominator) 0 ≡ whole →
      IfNone (cond whole (Some (a.multiple.numerator *ℤ pos (half_turn / a.multiple.denominator))) None) ((n : ℤ) → IsSixteenths a n → ⊥)
  none_by true e = tt
  none_by false e = λ n h. eqb-false _ _ e (divides_half_turn a.multiple.numerator a.multiple.denominator n fraction.lowest h.multiple)

  pub multiple_some : (r : Option ℤ) → r ≡ sixteenths_of_multiple a.multiple → IfSome r (λ n. IsSixteenths a n)
  multiple_some r e = rw e (some_by (eqb (half_turn % a.multiple.denominator) 0) refl)

  pub multiple_none : (r : Option ℤ) → r ≡ sixteenths_of_multiple a.multiple → IfNone r ((n : ℤ) → IsSixteenths a n → ⊥)
  multiple_none r e = rw e (none_by (eqb (half_turn % a.multiple.denominator) 0) refl)
