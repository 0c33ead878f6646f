-- Bits of words.
use Rattle.std.proofs.Common.{◌≡◌, refl, sym, ◌∙◌, ap, ap₂, ℕ, zero, suc, ◌+◌, ◌/◌, ◌%◌, ◌^◌, ◌<◌, min, false, ◌&&◌, eqb, arith}
use Rattle.std.specs.Int.{bit_at}
use Rattle.std.specs.Int.RustNames.{bit_xor, bit_and, count_ones}
use Rattle.std.proofs.Math.Nat.{pow-suc}
use Rattle.std.proofs.lemmas.Nat.{ones-le}
use Rattle.std.proofs.lemmas.Nat.Bits.{bit_at-lt, bit_at_xor, bit_at_and, bit_at_lowest, bit_at-suc, bit_at-zero, same_from_bits_below}
use lib.Count.{ones_step}
use Rattle.zx_model.specs.Bits.{xor, one_if}
use Rattle.zx_model.proofs.BitLemmas.{each_below_two, sum_of_bits}
use Rattle.zx_bits.specs.Internal.Words.{digit, is_odd, how_many}
use Rattle.zx_bits.proofs.Counts.{many-same}

least_of_bits : (x y : ℕ) → x < 2 → y < 2 → eqb (min x y) 1 ≡ (eqb x 1 && eqb y 1)
least_of_bits = each_below_two (λ x y. eqb (min x y) 1 ≡ (eqb x 1 && eqb y 1)) refl refl refl refl

pub digit-xor : (a b i : ℕ) → digit (bit_xor a b) i ≡ xor (digit a i) (digit b i)
digit-xor a b i = ap (λ d. eqb d 1) (bit_at_xor a b i) ∙ sum_of_bits (bit_at a i) (bit_at b i) (bit_at-lt a i) (bit_at-lt b i)

pub digit-and : (a b i : ℕ) → digit (bit_and a b) i ≡ (digit a i && digit b i)
digit-and a b i = ap (λ d. eqb d 1) (bit_at_and a b i) ∙ least_of_bits (bit_at a i) (bit_at b i) (bit_at-lt a i) (bit_at-lt b i)

pub digit-zero : (i : ℕ) → digit 0 i ≡ false
digit-zero i = ap (λ d. eqb d 1) (bit_at-zero i)

one_if-bit : (d : ℕ) → d < 2 → one_if (eqb d 1) ≡ d
one_if-bit zero lt = refl
one_if-bit (suc zero) lt = refl
one_if-bit (suc (suc d)) lt = absurd (omega arith)

-- a word has as many ones as bits that are set
pub count_ones-many : (k n : ℕ) → n < 2 ^ k → count_ones n ≡ how_many k (digit n)
unfolding how_many
count_ones-many zero n fits = omega (arith, ones-le 0 n fits)
count_ones-many (suc k) n fits =
    ones_step n
    ∙ ap₂ (λ a b. a + b) (sym (bit_at_lowest n) ∙ sym (one_if-bit (bit_at n 0) (bit_at-lt n 0)))
    (count_ones-many k (n / 2) (omega (arith, pow-suc 2 k)) ∙ many-same k _ _ (λ i lt. ap (λ d. eqb d 1) (sym (bit_at-suc n i))))

pub count_ones-odd : (k n : ℕ) → n < 2 ^ k → eqb (count_ones n % 2) 1 ≡ is_odd k (digit n)
count_ones-odd k n fits = ap (λ m. eqb (m % 2) 1) (count_ones-many k n fits)

-- words with the same bits are equal
pub same_from_digits : (a b : ℕ) → a < 2 ^ 64 → b < 2 ^ 64 → ((k : ℕ) → k < 64 → digit a k ≡ digit b k) → a ≡ b
same_from_digits a b fits_a fits_b same =
    same_from_bits_below 64 a b fits_a fits_b
    (λ k lt. sym (one_if-bit (bit_at a k) (bit_at-lt a k)) ∙ ap one_if (same k lt) ∙ one_if-bit (bit_at b k) (bit_at-lt b k))
