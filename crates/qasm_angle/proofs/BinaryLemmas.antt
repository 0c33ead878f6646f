-- Greatest common divisors by halves and differences.
use Rattle.std.proofs.Common.{◌≡◌, ℕ, zero, suc, ◌-◌, ◌*◌, ◌/◌, ◌%◌, ◌^◌, ◌<◌, ◌≤◌, sym, ◌∙◌, ap, ap₂, subst, inl, inr, arith}
use Rattle.std.specs.Prelude.{min}
use Rattle.std.specs.Int.{w64, trailing_zeros, bit_at, abs_diff}
use Rattle.std.proofs.lemmas.Bool.{cases_lt}
use Rattle.std.proofs.lemmas.Nat.Bits.{bit_at-trailing_zeros}
use Rattle.std.proofs.lemmas.Nat.Gcd.{IsGcd-from_sub, dvd_refl, le_of_dvd, same_from_IsGcd}
use Rattle.std.proofs.lemmas.Nat.{shr-shr, pow-add, pow_pos}
use Rattle.std.proofs.Math.Nat.{mul_comm, mul_assoc, mod-one, div-one, pow-suc, mul-pos}
use Rattle.qasm_angle.specs.Ratio.{gcd}
use Rattle.qasm_angle.proofs.GcdLemmas.{IsGcd-gcd, gcd-step, gcd-zero, gcd_comm, gcd-mul}
use Rattle.qasm_angle.proofs.CrossLemmas.{coprime-mul}
use Rattle.qasm_angle.proofs.SumLemmas.{gcd-factor}

pub gcd-same : (a : ℕ) → gcd a a ≡ a
gcd-same a = same_from_IsGcd a a _ _ (IsGcd-gcd a a) (dvd_refl a, dvd_refl a, λ d h i. h)

-- one step by a difference
pub gcd-sub : (a b : ℕ) → b ≤ a → gcd (a - b) b ≡ gcd a b
gcd-sub a b p = same_from_IsGcd a b _ _ (IsGcd-from_sub a b _ p (IsGcd-gcd (a - b) b)) (IsGcd-gcd a b)

-- an odd number has nothing in common with a power of 2
odd_power : (n k : ℕ) → n % 2 ≡ 1 → gcd (2 ^ k) n ≡ 1
odd_power n zero e = gcd_comm 1 n ∙ gcd-step n 1 (omega arith) ∙ ap (gcd 1) (mod-one n) ∙ gcd-zero 1
odd_power n (suc k) e =
    let two : gcd 2 n ≡ 1 = gcd_comm 2 n ∙ gcd-step n 2 (omega arith) ∙ ap (gcd 2) e ∙ gcd-step 2 1 (omega arith) ∙ gcd-zero 1 in
    ap (λ m. gcd m n) (pow-suc 2 k) ∙ coprime-mul (2 ^ k) 2 n (odd_power n k e) two

-- factors of 2 have nothing to do with an odd number
pub gcd-halved : (n k m : ℕ) → n % 2 ≡ 1 → gcd n (2 ^ k * m) ≡ gcd n m
gcd-halved n k m e = gcd-factor n (2 ^ k) m (gcd_comm n (2 ^ k) ∙ odd_power n k e)

gcd-halves_up : (i j u v : ℕ) → i ≤ j → u % 2 ≡ 1 → gcd (2 ^ i * u) (2 ^ j * v) ≡ 2 ^ i * gcd u v
gcd-halves_up i j u v p e =
    let split : 2 ^ j * v ≡ 2 ^ i * (2 ^ (j - i) * v) = ap (λ k. 2 ^ k * v) (omega arith) ∙ ap (λ n. n * v) (pow-add 2 i (j - i)) ∙ mul_assoc (2 ^ i) (2 ^ (j - i)) v in
    ap (gcd (2 ^ i * u)) split ∙ gcd-mul (2 ^ i) u (2 ^ (j - i) * v) (pow_pos i) ∙ ap (λ n. 2 ^ i * n) (gcd-halved u (j - i) v e)

pub gcd-halves_first : (i j u v : ℕ) → i ≤ j → u % 2 ≡ 1 → 2 ^ i * gcd u v ≡ gcd (2 ^ i * u) (2 ^ j * v)
gcd-halves_first i j u v p e = sym (gcd-halves_up i j u v p e)

pub gcd-halves_second : (i j u v : ℕ) → j ≤ i → v % 2 ≡ 1 → 2 ^ j * gcd u v ≡ gcd (2 ^ i * u) (2 ^ j * v)
gcd-halves_second i j u v p e = ap (λ n. 2 ^ j * n) (gcd_comm u v) ∙ sym (gcd-halves_up j i v u p e) ∙ gcd_comm (2 ^ j * v) (2 ^ i * u)

-- digits that are 0 are those of a factor
zeros_below : (n t : ℕ) → ((i : ℕ) → i < t → bit_at n i ≡ 0) → 2 ^ t * (n / 2 ^ t) ≡ n
zeros_below n zero h = omega (arith, div-one n)
zeros_below n (suc t) h =
    let bit : n / 2 ^ t % 2 ≡ 0 = h t (omega arith) in
    let even : 2 * (n / 2 ^ t / 2) ≡ n / 2 ^ t = omega (arith, bit) in
    let half : n / 2 ^ suc t ≡ n / 2 ^ t / 2 = ap (λ k. n / 2 ^ k) (omega arith) ∙ sym (shr-shr n t 1) in
    ap₂ (λ a b. a * b) (pow-suc 2 t) half ∙ mul_assoc (2 ^ t) 2 (n / 2 ^ t / 2) ∙ ap (λ k. 2 ^ t * k) even ∙ zeros_below n t (λ i p. h i (omega (arith, p)))

pub halved_number : (n : ℕ) → 0 < n → n < 2 ^ 64 → (2 ^ trailing_zeros w64 n * (n / 2 ^ trailing_zeros w64 n) ≡ n) × (n / 2 ^ trailing_zeros w64 n % 2 ≡ 1) × (trailing_zeros w64 n < 64)
halved_number n p q = let low = bit_at-trailing_zeros w64 n p q in (zeros_below n (trailing_zeros w64 n) low.2, low.1, low.0)

-- the smaller one and the difference
gcd-apart : (l r : ℕ) → gcd (min l r) (abs_diff l r) ≡ gcd l r
gcd-apart l r = elim (cases_lt l r) [
  | inl p ↦ ap₂ gcd (omega (arith, p)) (omega (arith, p)) ∙ gcd_comm l (r - l) ∙ gcd-sub r l (omega (arith, p)) ∙ gcd_comm r l
  | inr p ↦ ap₂ gcd (omega (arith, p)) (omega (arith, p)) ∙ gcd_comm r (l - r) ∙ gcd-sub l r p
]

pub odd_min : (l r : ℕ) → l % 2 ≡ 1 → r % 2 ≡ 1 → min l r % 2 ≡ 1
odd_min l r e f = elim (cases_lt l r) [
  | inl p ↦ ap (λ n. n % 2) (omega (arith, p)) ∙ e
  | inr p ↦ ap (λ n. n % 2) (omega (arith, p)) ∙ f
]

pub gcd-smaller : (l r k m : ℕ) → l % 2 ≡ 1 → r % 2 ≡ 1 → 2 ^ k * m ≡ abs_diff l r → gcd (min l r) m ≡ gcd l r
gcd-smaller l r k m e f g = sym (gcd-halved (min l r) k m (odd_min l r e f)) ∙ ap (gcd (min l r)) g ∙ gcd-apart l r

gcd_fits : (k n b : ℕ) → n % 2 ≡ 1 → 2 ^ k * n < 2 ^ 64 → gcd (2 ^ k * n) b < 2 ^ 64
gcd_fits k n b e p =
    let some : 0 < 2 ^ k * n = mul-pos (pow_pos k) (omega (arith, e)) in
    omega (arith, le_of_dvd some (IsGcd-gcd (2 ^ k * n) b).0, p)

whole_shift : (r k n : ℕ) → 2 ^ k * r ≡ n → n < 2 ^ 64 → r * 2 ^ k % 18446744073709551616 ≡ n
whole_shift r k n e p = let f : r * 2 ^ k ≡ n = mul_comm r (2 ^ k) ∙ e in rw f (omega (arith, p))

pub shifted_first : (r i j u v : ℕ) → r ≡ gcd u v → i < j → u % 2 ≡ 1 → 2 ^ i * u < 2 ^ 64
    → r * 2 ^ i % 18446744073709551616 ≡ gcd (2 ^ i * u) (2 ^ j * v)
shifted_first r i j u v told p e q =
    whole_shift r i _ (ap (λ n. 2 ^ i * n) told ∙ gcd-halves_first i j u v (omega (arith, p)) e) (gcd_fits i u (2 ^ j * v) e q)

pub shifted_second : (r i j u v : ℕ) → r ≡ gcd u v → j ≤ i → v % 2 ≡ 1 → 2 ^ j * v < 2 ^ 64
    → r * 2 ^ j % 18446744073709551616 ≡ gcd (2 ^ i * u) (2 ^ j * v)
shifted_second r i j u v told p e q =
    whole_shift r j _ (ap (λ n. 2 ^ j * n) told ∙ gcd-halves_second i j u v p e)
    (subst (λ n. n < 2 ^ 64) (gcd_comm (2 ^ j * v) (2 ^ i * u)) (gcd_fits j v (2 ^ i * u) e q))

pub gcd-two_steps : (a b : ℕ) → 0 < b → 0 < a % b → gcd a b ≡ gcd (a % b) (b % (a % b))
gcd-two_steps a b p q = gcd-step a b p ∙ gcd-step b (a % b) q
