-- Sums of bits, and whether an odd number of bits is set.
use Rattle.std.proofs.Common.{◌≡◌, refl, sym, ◌∙◌, ap, ap₂, ℕ, zero, suc, ◌+◌, ◌%◌, ◌<◌, ◌≤◌, Bool, true, false, eqb, arith}
use Rattle.zx_model.specs.Bits.{xor, one_if}
use Rattle.zx_model.proofs.BitLemmas.{xor-false, false-xor, xor-same, xor_comm, xor_assoc, xor_left_comm, xor-xor, sum_of_bits}
use Rattle.zx_bits.specs.Internal.Words.{how_many, is_odd}
use Rattle.zx_bits.proofs.Counts.{many-same, many-none, many-add, many-either}

-- sums of bits, sorted; equal summands in pairs vanish
pub ruleset sums = (xor-false, false-xor, xor-same, xor_comm, xor_assoc, xor_left_comm, xor-xor)

sum_odd : (x y : ℕ) → eqb ((x + y) % 2) 1 ≡ xor (eqb (x % 2) 1) (eqb (y % 2) 1)
sum_odd x y =
    let e : (x + y) % 2 ≡ (x % 2 + y % 2) % 2 = omega arith in
    ap (λ d. eqb d 1) e ∙ sum_of_bits (x % 2) (y % 2) (omega arith) (omega arith)

odd_one : (b : Bool) → eqb (one_if b % 2) 1 ≡ b
odd_one true = refl
odd_one false = refl

pub is_odd-suc : (n : ℕ) (f : ℕ → Bool) → is_odd (suc n) f ≡ xor (f 0) (is_odd n (λ k. f (suc k)))
unfolding how_many
is_odd-suc n f = sum_odd (one_if (f 0)) (how_many n (λ k. f (suc k))) ∙ ap (λ b. xor b (is_odd n (λ k. f (suc k)))) (odd_one (f 0))

pub is_odd-same : (n : ℕ) (f g : ℕ → Bool) → ((k : ℕ) → k < n → f k ≡ g k) → is_odd n f ≡ is_odd n g
is_odd-same n f g same = ap (λ m. eqb (m % 2) 1) (many-same n f g same)

pub is_odd-none : (n : ℕ) (f : ℕ → Bool) → ((k : ℕ) → k < n → f k ≡ false) → is_odd n f ≡ false
is_odd-none n f none = ap (λ m. eqb (m % 2) 1) (many-none n f none)

pub is_odd-xor : (n : ℕ) (f g : ℕ → Bool) → is_odd n (λ k. xor (f k) (g k)) ≡ xor (is_odd n f) (is_odd n g)
unfolding how_many
is_odd-xor zero f g = refl
is_odd-xor (suc n) f g =
    is_odd-suc n (λ k. xor (f k) (g k)) ∙ ap (xor (xor (f 0) (g 0))) (is_odd-xor n (λ k. f (suc k)) (λ k. g (suc k)))
    ∙ regroup (f 0) (g 0) (is_odd n (λ k. f (suc k))) (is_odd n (λ k. g (suc k)))
    ∙ sym (ap₂ xor (is_odd-suc n f) (is_odd-suc n g))
  where
    regroup : (a b c d : Bool) → xor (xor a b) (xor c d) ≡ xor (xor a c) (xor b d)
    regroup a b c d = simp sums

pub is_odd-add : (m n : ℕ) (f : ℕ → Bool) → is_odd (m + n) f ≡ xor (is_odd m f) (is_odd n (λ k. f (m + k)))
is_odd-add m n f = ap (λ j. eqb (j % 2) 1) (many-add m n f) ∙ sum_odd (how_many m f) (how_many n (λ k. f (m + k)))

-- where nothing is set from either of two places on, as many are set below one as below the other
pub is_odd-either : (m n : ℕ) (f : ℕ → Bool) → ((k : ℕ) → m ≤ k → f k ≡ false) → ((k : ℕ) → n ≤ k → f k ≡ false) → is_odd m f ≡ is_odd n f
is_odd-either m n f none_m none_n = ap (λ j. eqb (j % 2) 1) (many-either m n f none_m none_n)
