-- Reading digits one after the other.
use Rattle.std.proofs.Common.{◌≡◌, ℕ, zero, suc, ◌+◌, ◌-◌, ◌*◌, ◌^◌, ◌<◌, ◌≤◌, Bool, true, false, not, ◌&&◌, ◌||◌, cond, eqb, ltb, leb, List, [], ◌∷◌, length, get_or, drop, Option, Some, None, drop-cons, refl, sym, ◌∙◌, ap, subst, arith}
use Rattle.std.specs.Prelude.{IfSome}
use Rattle.std.specs.Char.{is_ascii_digit}
use Rattle.std.proofs.lemmas.Bool.Decides.{nat_tests}
use Rattle.std.proofs.Math.Nat.{pow-succ'}
use Rattle.std.proofs.Math.Numerals.{add-one}
use Rattle.qasm_angle.proofs.DecimalLemmas.{ten_pow_mono}
use Rattle.qasm_angle.specs.Literals.{digits_of, number_from, significant, most_significant, count_to_last}
use Rattle.qasm_angle.specs.Internal.Significands.{next_count, overlong, IsSignificand, DecidesAlike}
use Rattle.qasm_angle.specs.declared.significand.Significand.{Significand}

-- how many digits there are up to the last one other than 0, where so many stand before
abbrev reach : ℕ → ℕ → ℕ
reach count last = cond (eqb last 0) 0 (count + last)

reach-step : (none : Bool) (last count : ℕ) → 0 < count →
    ((not none && leb 38 count) || ltb 38 (reach (count + 1) last)) ≡ ltb 38 (reach count (cond (none && eqb last 0) 0 (last + 1)))
reach-step true zero count p = grind (arith, nat_tests)
reach-step false zero count p = grind (arith, nat_tests)
reach-step true (suc last) count p = grind (arith, nat_tests)
reach-step false (suc last) count p = grind (arith, nat_tests)

next_count-some : (count d : ℕ) → 0 < count → next_count count d ≡ count + 1
next_count-some count d p = grind (arith, nat_tests)

overlong-reach : (count : ℕ) (digits : List ℕ) → 0 < count → overlong count digits ≡ ltb 38 (reach count (count_to_last digits))
overlong-reach count [] p = refl
overlong-reach count (d ∷ digits) p =
    ap (λ b. (not (eqb d 0) && leb 38 count) || b) (ap (λ n. overlong n digits) (next_count-some count d p) ∙ overlong-reach (count + 1) digits (omega arith))
    ∙ reach-step (eqb d 0) (count_to_last digits) count p

reach-one : (last : ℕ) → ltb 38 (reach 1 last) ≡ ltb 38 (last + 1)
reach-one zero = refl
reach-one (suc last) = grind (arith, nat_tests)

first-step : (d : ℕ) (digits : List ℕ) (none : Bool) → eqb d 0 ≡ none → overlong 0 digits ≡ ltb 38 (significant digits) → overlong 0 (d ∷ digits) ≡ ltb 38 (significant (d ∷ digits))
first-step d digits true e h = rw e h
first-step d digits false e h = rw (e, e) (overlong-reach 1 digits (omega arith) ∙ reach-one (count_to_last digits))

-- a digit comes too late exactly where too many are significant
pub overlong-significant : (digits : List ℕ) → overlong 0 digits ≡ ltb 38 (significant digits)
overlong-significant [] = refl
overlong-significant (d ∷ digits) = first-step d digits (eqb d 0) refl (overlong-significant digits)

ten_more : (k : ℕ) → 10 ^ (k + 1) ≡ 10 * 10 ^ k
ten_more k = ap (λ n. 10 ^ n) (add-one k) ∙ pow-succ' 10 k

-- a zero after the prefix
pub DecidesAlike-zero : (s : Significand) (d : ℕ) (rest digits : List ℕ) → most_significant ≤ s.count → d ≡ 0 →
    DecidesAlike s (d ∷ rest) digits → DecidesAlike (record { leading = s.leading; count = s.count; zeros = s.zeros + 1 }) rest digits
DecidesAlike-zero s d rest digits full e h =
    let longer : s.leading * 10 ^ (s.zeros + 1) ≡ 10 * (s.leading * 10 ^ s.zeros) + d = omega (arith, ap (λ x. s.leading * x) (ten_more s.zeros)) in
    let one_more : s.count + (s.zeros + 1) ≡ next_count (s.count + s.zeros) d = omega (arith, next_count-some (s.count + s.zeros) d (omega arith)) in
    let none : eqb d 0 ≡ true = grind arith in
    let leading = ap (λ b. (not b && leb 38 (s.count + s.zeros)) || overlong (next_count (s.count + s.zeros) d) rest) none in
    record {
      number = ap (λ n. number_from n rest) longer ∙ h.number;
      length = ap (λ n. overlong n rest) one_more ∙ sym leading ∙ h.length;
    }

-- a number below a power of ten, with a digit after it
pub more_digits : (leading count digit : ℕ) → leading < 10 ^ count → count < 38 → digit < 10 → leading * 10 + digit < 10 ^ 38
more_digits leading count digit h p q = omega (arith, ten_pow_mono count 37 (omega arith))

-- before the first digit
pub IsSignificand-start : IsSignificand (record { leading = 0; count = 0; zeros = 0 })
IsSignificand-start = record { small = omega arith; few = omega arith; nonzero = λ h. absurd (omega arith); full = λ h. absurd (omega arith) }

pub DecidesAlike-start : (digits : List ℕ) → DecidesAlike (record { leading = 0; count = 0; zeros = 0 }) digits digits
DecidesAlike-start digits = record { number = refl; length = overlong-significant digits }

digits_of-digit : (b : ℕ) (rest : List ℕ) → is_ascii_digit b ≡ true → digits_of (b ∷ rest) ≡ (b - 48) ∷ digits_of rest
digits_of-digit b rest e = ap (λ d. cond d ((b - 48) ∷ digits_of rest) (digits_of rest)) e

-- a byte that is a digit is that digit
pub DecidesAlike-digit : (s : Significand) (b : ℕ) (r : Option Significand) → is_ascii_digit b ≡ true →
    IfSome r (λ t. (rest digits : List ℕ) → DecidesAlike s ((b - 48) ∷ rest) digits → DecidesAlike t rest digits) →
    IfSome r (λ t. (rest digits : List ℕ) → DecidesAlike s (digits_of (b ∷ rest)) digits → DecidesAlike t (digits_of rest) digits)
DecidesAlike-digit s b None e h = tt
DecidesAlike-digit s b (Some t) e h = λ rest digits k. h (digits_of rest) digits (subst (λ ds. DecidesAlike s ds digits) (digits_of-digit b rest e) k)

-- the first of the bytes that are left
pub DecidesAlike-next : (s : Significand) (bytes digits : List ℕ) (i : ℕ) → i < length bytes → DecidesAlike s (digits_of (drop i bytes)) digits → DecidesAlike s (digits_of (get_or bytes i 0 ∷ drop (i + 1) bytes)) digits
DecidesAlike-next s bytes digits i h k =
    subst (λ rest. DecidesAlike s (digits_of rest) digits) (drop-cons bytes i 0 h ∙ ap (λ n. get_or bytes i 0 ∷ drop n bytes) (sym (add-one i))) k
