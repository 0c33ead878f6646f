-- Maps of which one is a scalar times the other, and how they compose.
use Rattle.std.proofs.Common.{◌≡◌, ℕ, zero as nought, suc, ◌*◌, pos, Bool, List, [], length, refl, sym, ap, ap₂, ◌∙◌, arith}
use Rattle.zx_model.specs.Constants.{root_of_two}
use Rattle.zx_model.specs.Internal.Powers.{power_of_two}
use Rattle.zx_model.specs.Number.{Number, mul, root_power}
use Rattle.zx_model.specs.Scalar.{root_of_two_power, numerator, denominator, IsScaled, one_scalar, product_of_scalars}
use Rattle.zx_model.specs.declared.scalar.Scalar.{Scalar}
use Rattle.zx_model.proofs.Powers.{root_power-zero}
use Rattle.zx_model.proofs.Ring.{one-mul, mul-one, mul_assoc}
use Rattle.zx_model.proofs.Scalars.{root_of_two_squared, scaled_refl, scaled_trans}
use Rattle.zx_gates.specs.Maps.{amp, acts}
use Rattle.zx_gates.specs.Internal.Scalars.{scalar}
use Rattle.zx_gates.specs.declared.gate.Gate.{Gate}
use Rattle.zx_gates.proofs.MapLemmas.{amp-acts}
use Rattle.zx_gates.proofs.Multiples.{TakesOutFactors}

-- on lists of n bits the one map is the scalar times the other
pub record Scaled (n : ℕ) (F : (List Bool → Number) → List Bool → Number) (s : Scalar) (G : (List Bool → Number) → List Bool → Number) : Type 0 where
  pub equal : (f : List Bool → Number) (x : List Bool) → length x ≡ n
      → mul (denominator s.root2) (F f x) ≡ mul (mul (numerator s.root2) (root_power s.turn)) (G f x)

-- the same as of matrices with one row
abbrev column : ((List Bool → Number) → List Bool → Number) → (List Bool → Number) → List Bool → List Bool → Number
column F f x y = F f x

pub scaled-refl : (n : ℕ) (F : (List Bool → Number) → List Bool → Number) → Scaled n F one_scalar F
scaled-refl n F = record { equal = λ f x l. scaled_refl n 0 (column F f) x [] l refl }

pub scaled-trans : (n : ℕ) (F G H : (List Bool → Number) → List Bool → Number) (s t : Scalar) → Scaled n F s G → Scaled n G t H
    → Scaled n F (product_of_scalars s t) H
scaled-trans n F G H s t p q = record {
  equal = λ f x l. scaled_trans n 0 (column F f) (column G f) (column H f) s t (λ z y k m. p.equal f z k) (λ z y k m. q.equal f z k) x [] l refl;
}

-- what follows a map is a scalar times what follows another
scaled-behind : (n : ℕ) (F G H : (List Bool → Number) → List Bool → Number) (s : Scalar) → TakesOutFactors n F → Scaled n G s H
    → Scaled n (λ f. F (G f)) s (λ f. F (H f))
scaled-behind n F G H s out p = record {
  equal = λ f x l.
      sym (out (denominator s.root2) (λ z. mul (denominator s.root2) (G f z)) (G f) (λ z k. refl) x l)
      ∙ out (mul (numerator s.root2) (root_power s.turn)) (λ z. mul (denominator s.root2) (G f z)) (H f) (λ z k. p.equal f z k) x l;
}

-- one map after the other, where the second takes out factors
pub scaled-then : (n : ℕ) (F F' G G' : (List Bool → Number) → List Bool → Number) (s t : Scalar) → TakesOutFactors n G → Scaled n F s G
    → Scaled n F' t G' → Scaled n (λ f. F (F' f)) (product_of_scalars s t) (λ f. G (G' f))
scaled-then n F F' G G' s t out first rest =
    scaled-trans n (λ f. F (F' f)) (λ f. G (F' f)) (λ f. G (G' f)) s t (record { equal = λ f x l. first.equal (F' f) x l })
    (scaled-behind n G F' G' t out rest)

-- on lists of n bits the one map is the number times the other
abbrev pub IsTimes : ℕ → Number → ((List Bool → Number) → List Bool → Number) → ((List Bool → Number) → List Bool → Number) → Type 0
IsTimes n d F G = (f : List Bool → Number) (x : List Bool) → length x ≡ n → F f x ≡ mul d (G f x)

pub scaled_if_times : (n : ℕ) (F G : (List Bool → Number) → List Bool → Number) (d : Number) (power turns : ℕ)
    → d ≡ mul (root_of_two_power power) (root_power turns) → IsTimes n d F G → Scaled n F (scalar (pos power) turns) G
scaled_if_times n F G d power turns is e = record { equal = λ f x l. one-mul (F f x) ∙ e f x l ∙ ap (λ c. mul c (G f x)) is }

-- a matrix that a map makes is a scalar times that of a list of gates
pub scaled_amp : (n : ℕ) (a : List Bool → List Bool → Number) (F : (List Bool → Number) → List Bool → Number) (s : Scalar) (gates : List Gate)
    → ((x y : List Bool) → a x y ≡ F (λ z. amp [] z y) x) → Scaled n F s (acts gates) → IsScaled n n a s (amp gates)
scaled_amp n a F s gates e p = λ x y k m.
    ap (mul (denominator s.root2)) (e x y) ∙ p.equal (λ z. amp [] z y) x k
    ∙ ap (mul (mul (numerator s.root2) (root_power s.turn))) (sym (amp-acts gates x y))

-- the powers of two among the powers of its root
pub root_of_two_power-twice : (k : ℕ) → root_of_two_power (2 * k) ≡ power_of_two k
root_of_two_power-twice nought = refl
root_of_two_power-twice (suc k) =
    let twice : 2 * suc k ≡ suc (suc (2 * k)) = omega arith in
    ap root_of_two_power twice
    ∙ sym (mul_assoc root_of_two root_of_two (root_of_two_power (2 * k)))
    ∙ ap₂ mul root_of_two_squared (root_of_two_power-twice k)

-- one map is a power of two times the other
pub scaled_if_doubled : (n : ℕ) (F G : (List Bool → Number) → List Bool → Number) (k : ℕ) → IsTimes n (power_of_two k) F G
    → Scaled n F (scalar (pos (2 * k)) 0) G
scaled_if_doubled n F G k e = scaled_if_times n F G (power_of_two k) (2 * k) 0 is e
  where
    is : power_of_two k ≡ mul (root_of_two_power (2 * k)) (root_power 0)
    is = sym (mul-one (power_of_two k)) ∙ ap₂ mul (sym (root_of_two_power-twice k)) (sym root_power-zero)
