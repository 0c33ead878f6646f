-- Lowest terms and their limit.
use Rattle.std.proofs.Common.{◌≡◌, ℕ, suc, ◌/◌, ◌<◌, ◌≤◌, ◌⊎◌, ℤ, pos, negsuc, nat_abs, Some, None, Bool, true, false, refl, sym, inl, inr, arith}
use Rattle.std.specs.Prelude.{int_lt}
use Rattle.std.proofs.lemmas.Int.{to_z-of_z, fits_signed_from_abs}
use Rattle.std.proofs.Math.Nat.{div-le_self}
use mir.Val.{SFits, of_z, to_z}
use mir.Syntax.{w64}
use Rattle.qasm_angle.specs.Ratio.{Ratio, gcd, lowest, limited, largest, is_zero, IsFraction}
use Rattle.qasm_angle.specs.Internal.Signs.{signed}
use Rattle.qasm_angle.proofs.GcdLemmas.{gcd-quotients, quotient_pos}

pub nat_abs-signed : (negative : Bool) (size : ℕ) → nat_abs (signed negative size) ≡ size
nat_abs-signed true (suc n) = refl
nat_abs-signed _ _ = refl

-- the terms by sign and size
pub lowest-signed : (a : ℤ) (b : ℕ) → lowest a b ≡ record { numerator = signed (int_lt a (pos 0)) (nat_abs a / gcd (nat_abs a) b); denominator = b / gcd (nat_abs a) b }
unfolding lowest
lowest-signed (pos a) b = let not_below : int_lt (pos a) (pos 0) ≡ false = grind arith in rw not_below refl
lowest-signed (negsuc a) b = refl

pub limited-some : (a : Ratio) → nat_abs a.numerator ≤ largest → a.denominator ≤ largest → limited a ≡ Some a
unfolding limited
limited-some a p q = grind arith

pub limited-none : (a : Ratio) → (largest < nat_abs a.numerator) ⊎ (largest < a.denominator) → limited a ≡ None
unfolding limited
limited-none a (inl p) = grind arith
limited-none a (inr p) = grind arith

-- the terms of a quotient, by its parts
module _ (a : ℤ) (b size g : ℕ) (negative : Bool) (is_size : size ≡ nat_abs a) (divisor : g ≡ gcd size b) (sign : negative ≡ int_lt a (pos 0)) where
  terms : lowest a b ≡ record { numerator = signed negative (size / g); denominator = b / g }
  terms = rw (lowest-signed, sign, divisor, is_size) refl

  pub are_terms : (above : ℤ) → above ≡ signed negative (size / g) → ◌≡◌ {A = Ratio} (record { numerator = above; denominator = b / g }) (lowest a b)
  are_terms above e = rw (e, terms) refl

  pub limited_terms : (above : ℤ) → above ≡ signed negative (size / g) → size / g ≤ largest → b / g ≤ largest → Some (record { numerator = above; denominator = b / g }) ≡ limited (lowest a b)
  limited_terms above e p q = rw (e, terms) (sym (limited-some _ (rw nat_abs-signed p) q))

  pub none_limited : (largest < size / g) ⊎ (largest < b / g) → None ≡ limited (lowest a b)
  none_limited (inl p) = rw terms (sym (limited-none _ (inl (rw nat_abs-signed p))))
  none_limited (inr p) = rw terms (sym (limited-none _ (inr p)))

  pub IsFraction-terms : (above : ℤ) → above ≡ signed negative (size / g) → 0 < b → size / g ≤ largest → b / g ≤ largest → IsFraction (record { numerator = above; denominator = b / g })
  IsFraction-terms above e h p q = record {
    positive = rw divisor (quotient_pos size b h);
    lowest = rw (e, nat_abs-signed, divisor) (gcd-quotients size b h);
    small_numerator = rw (e, nat_abs-signed) p;
    small_denominator = q;
  }

-- a part of a number is no larger
pub quotient_small : (n g : ℕ) → n ≤ largest → n / g ≤ largest
quotient_small n g p = omega (arith, div-le_self n g)

-- a number of at most that size fits
pub SFits-signed : (negative : Bool) (size : ℕ) → size ≤ largest → SFits w64 (signed negative size)
SFits-signed negative size h = fits_signed_from_abs w64 _ (rw nat_abs-signed (omega arith))

pub signed_same : (negative : Bool) (size : ℕ) → size ≤ largest → to_z w64 (of_z w64 (signed negative size)) ≡ signed negative size
signed_same negative size h = to_z-of_z w64 _ (SFits-signed negative size h)

pub SFits-small : (a : ℤ) → nat_abs a ≤ largest → SFits w64 a
SFits-small a h = fits_signed_from_abs w64 a (omega arith)

pub nonzero_numerator : (a : Ratio) → is_zero a ≡ false → 0 < nat_abs a.numerator
nonzero_numerator a h = grind arith
