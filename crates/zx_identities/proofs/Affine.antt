-- Bits that are affine in a basis state: parities of it, turned or not.
use Rattle.std.proofs.Common.{◌≡◌, ℕ, zero, suc, Bool, true, false, not, List, [], ◌∷◌, length, refl, sym, ap, ap₂, ◌∙◌}
use Rattle.zx_model.specs.Bits.{xor, bit}
use Rattle.zx_model.proofs.BitLemmas.{expand}
use Rattle.zx_identities.specs.Polynomials.{parity}
use Rattle.zx_identities.proofs.Differences.{IsAffine}

pub affine-same : (n : ℕ) (p q : List Bool → Bool) → ((x : List Bool) → length x ≡ n → p x ≡ q x) → IsAffine n p → IsAffine n q
affine-same zero p q same affine = tt
affine-same (suc n) p q same affine = (
  affine-same n (λ x. p (false ∷ x)) (λ x. q (false ∷ x)) (λ x l. same (false ∷ x) (ap suc l)) affine.0,
  (affine.1.0, λ x l. sym (same (true ∷ x) (ap suc l)) ∙ affine.1.1 x l ∙ ap (xor affine.1.0) (same (false ∷ x) (ap suc l))),
)

pub affine-constant : (n : ℕ) (b : Bool) → IsAffine n (λ x. b)
affine-constant zero b = tt
affine-constant (suc n) b = (affine-constant n b, (false, λ x l. refl))

regrouped : (a b c d : Bool) → xor (xor a c) (xor b d) ≡ xor (xor a b) (xor c d)
regrouped a b c d = simp expand

pub affine-xor : (n : ℕ) (p q : List Bool → Bool) → IsAffine n p → IsAffine n q → IsAffine n (λ x. xor (p x) (q x))
affine-xor zero p q one other = tt
affine-xor (suc n) p q one other = (
  affine-xor n (λ x. p (false ∷ x)) (λ x. q (false ∷ x)) one.0 other.0,
  (
    xor one.1.0 other.1.0,
    λ x l. ap₂ xor (one.1.1 x l) (other.1.1 x l) ∙ regrouped one.1.0 other.1.0 (p (false ∷ x)) (q (false ∷ x)),
  ),
)

pub affine-not : (n : ℕ) (p : List Bool → Bool) → IsAffine n p → IsAffine n (λ x. not (p x))
affine-not n p affine = affine-xor n (λ x. true) p (affine-constant n true) affine

pub affine-bit : (n q : ℕ) → IsAffine n (λ x. bit x q)
affine-bit zero q = tt
affine-bit (suc n) zero = (affine-constant n false, (true, λ x l. refl))
affine-bit (suc n) (suc q) = (affine-bit n q, (false, λ x l. refl))

pub affine-parity : (n : ℕ) (column : List Bool) → IsAffine n (parity column)
affine-parity zero column = tt
affine-parity (suc n) [] = (affine-constant n false, (false, λ x l. refl))
affine-parity (suc n) (true ∷ column) = (affine-parity n column, (true, λ x l. refl))
affine-parity (suc n) (false ∷ column) = (affine-parity n column, (false, λ x l. refl))
