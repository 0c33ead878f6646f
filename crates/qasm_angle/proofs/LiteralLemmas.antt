-- The value of a number: its digits, and exponents that are too large to be told apart.
use Rattle.std.proofs.Common.{◌≡◌, ℕ, zero, suc, ◌+◌, ◌-◌, ◌*◌, ◌^◌, ◌<◌, ◌≤◌, min, Bool, true, false, not, cond, ltb, List, [], ◌∷◌, length, drop, pos, Option, Some, None, refl, sym, ◌∙◌, ap, inl, inr, arith}
use Rattle.std.proofs.Math.Nat.{mul-le-mul_right, mul-one, pow-succ'}
use Rattle.std.proofs.Math.ListN.{drop_of_length-le}
use Rattle.std.proofs.lemmas.Nat.{pow-add}
use Rattle.std.proofs.lemmas.Bool.{cases_lt, ltb-false}
use Rattle.std.proofs.lemmas.Bool.Decides.{nat_tests}
use Rattle.std.proofs.lemmas.List.Sums.{prefix_len-le-length}
use Rattle.std.specs.Char.{is_ascii_digit}
use Rattle.std.specs.List.{position, position_or_len}
use Rattle.std.specs.Option.{unwrap_or}
use Rattle.qasm_angle.specs.Ratio.{lowest, limited}
use Rattle.qasm_angle.specs.Literals.{digits_of, number_from, number_of, significant, most_significant, decimal, is_negative, exponent_size, places_of, value_of_parts}
use Rattle.qasm_angle.proofs.DecimalLemmas.{ten_pow_mono, none-small, none-raised, raised-scaled, zero-scaled}

-- the place of a mark, or the end
or-end : (found : Bool) (n len : ℕ) → ltb n len ≡ found → n ≤ len → unwrap_or (cond found (Some n) None) len ≡ n
or-end true n len t h = refl
or-end false n len t h = omega (arith, ltb-false n len t)

pub place-or-end : (p : ℕ → Bool) (text : List ℕ) (place : Option ℕ) → place ≡ position p text → unwrap_or place (length text) ≡ position_or_len p text
place-or-end p text place e =
    ap (λ o. unwrap_or o (length text)) e
    ∙ or-end (ltb (position_or_len p text) (length text)) (position_or_len p text) (length text) refl (prefix_len-le-length (λ x. not (p x)) text)

-- the digits with zeros after them
pub decimal-from : (digits : List ℕ) (leading zeros raised lowered : ℕ) → ltb most_significant (significant digits) ≡ false → number_of digits ≡ leading * 10 ^ zeros →
    limited (lowest (pos (leading * 10 ^ (zeros + raised))) (10 ^ lowered)) ≡ decimal digits raised lowered
unfolding decimal
decimal-from digits leading zeros raised lowered few number =
    let regroup : leading * 10 ^ (zeros + raised) ≡ number_of digits * 10 ^ raised = omega (arith, ap (λ x. leading * x) (pow-add 10 zeros raised), ap (λ x. x * 10 ^ raised) number) in
    rw few (ap (λ x. limited (lowest (pos x) (10 ^ lowered))) regroup)

-- decimals are the same where the fractions are
decimal-same : (digits : List ℕ) (raised lowered raised' lowered' : ℕ) →
    limited (lowest (pos (number_of digits * 10 ^ raised)) (10 ^ lowered)) ≡ limited (lowest (pos (number_of digits * 10 ^ raised')) (10 ^ lowered')) →
    decimal digits raised lowered ≡ decimal digits raised' lowered'
unfolding decimal
decimal-same digits raised lowered raised' lowered' e = ap (λ r. cond (ltb most_significant (significant digits)) None r) e

-- a number is below ten to the number of its bytes
below_by : (digit : Bool) (b leading : ℕ) (bytes : List ℕ) → is_ascii_digit b ≡ digit → ((n : ℕ) → number_from n (digits_of bytes) < (n + 1) * 10 ^ length bytes) →
    number_from leading (cond digit ((b - 48) ∷ digits_of bytes) (digits_of bytes)) < (leading + 1) * 10 ^ suc (length bytes)
below_by true b leading bytes e h =
    let small : (10 * leading + (b - 48)) + 1 ≤ (leading + 1) * 10 = grind (arith, nat_tests) in
    omega (arith, h (10 * leading + (b - 48)), mul-le-mul_right (10 ^ length bytes) small, ap (λ x. (leading + 1) * x) (pow-succ' 10 (length bytes)))
below_by false b leading bytes e h =
    omega (arith, h leading, ap (λ x. (leading + 1) * x) (pow-succ' 10 (length bytes)))

number_below : (bytes : List ℕ) (leading : ℕ) → number_from leading (digits_of bytes) < (leading + 1) * 10 ^ length bytes
number_below [] leading = omega arith
number_below (b ∷ bytes) leading = below_by (is_ascii_digit b) b leading bytes refl (number_below bytes)

-- far past the limit
far_raised : (number raised lowered : ℕ) → 0 < number → lowered + 19 ≤ raised → limited (lowest (pos (number * 10 ^ raised)) (10 ^ lowered)) ≡ None
far_raised number raised lowered p h =
    sym (raised-scaled number raised lowered (omega arith)) ∙ sym (none-raised number (raised - lowered) p (inr (omega arith)))

far_lowered : (number n lowered : ℕ) → 0 < number → number < 10 ^ n → n + 19 ≤ lowered → limited (lowest (pos (number * 10 ^ 0)) (10 ^ lowered)) ≡ None
far_lowered number n lowered p h q =
    let larger = ten_pow_mono (n + 19) lowered q in
    let product = pow-add 10 n 19 in
    let one : number * 10 ^ 0 ≡ number = mul-one number in
    rw one (none-small number (10 ^ lowered) p (omega (arith, larger, product)))

raised_far : (number raised raised' lowered : ℕ) → lowered + 19 ≤ raised → lowered + 19 ≤ raised' →
    limited (lowest (pos (number * 10 ^ raised)) (10 ^ lowered)) ≡ limited (lowest (pos (number * 10 ^ raised')) (10 ^ lowered))
raised_far zero raised raised' lowered h k = sym (zero-scaled zero raised lowered refl) ∙ zero-scaled zero raised' lowered refl
raised_far (suc number) raised raised' lowered h k = far_raised (suc number) raised lowered (omega arith) h ∙ sym (far_raised (suc number) raised' lowered (omega arith) k)

lowered_far : (number n lowered lowered' : ℕ) → number < 10 ^ n → n + 19 ≤ lowered → n + 19 ≤ lowered' →
    limited (lowest (pos (number * 10 ^ 0)) (10 ^ lowered)) ≡ limited (lowest (pos (number * 10 ^ 0)) (10 ^ lowered'))
lowered_far zero n lowered lowered' s h k = sym (zero-scaled zero 0 lowered refl) ∙ zero-scaled zero 0 lowered' refl
lowered_far (suc number) n lowered lowered' s h k = far_lowered (suc number) n lowered (omega arith) s h ∙ sym (far_lowered (suc number) n lowered' (omega arith) s k)

module _ (bytes : List ℕ) (size places most : ℕ) where
  -- An exponent that is larger than the numbers of digits is as good as any larger one.
  pub raised_saturated : places + 19 ≤ most → decimal (digits_of bytes) (min size most) places ≡ decimal (digits_of bytes) size places
  raised_saturated h = elim (cases_lt most size) [
    | inl larger ↦ decimal-same (digits_of bytes) (min size most) places size places (raised_far (number_of (digits_of bytes)) (min size most) size places (omega arith) (omega arith))
    | inr fits ↦ ap (λ x. decimal (digits_of bytes) x places) (omega arith)
  ]

  pub lowered_saturated : length bytes + 19 ≤ most → decimal (digits_of bytes) 0 (min size most + places) ≡ decimal (digits_of bytes) 0 (places + size)
  lowered_saturated h =
      let below : number_of (digits_of bytes) < 10 ^ length bytes = omega (arith, number_below bytes 0) in
      elim (cases_lt most size) [
        | inl larger ↦ decimal-same (digits_of bytes) 0 (min size most + places) 0 (places + size) (lowered_far (number_of (digits_of bytes)) (length bytes) (min size most + places) (places + size) below (omega arith) (omega arith))
        | inr fits ↦ ap (λ x. decimal (digits_of bytes) 0 x) (omega arith)
      ]

-- digits after a number make it no smaller
number_from-le : (leading : ℕ) (digits : List ℕ) → leading ≤ number_from leading digits
number_from-le leading [] = omega arith
number_from-le leading (d ∷ digits) = omega (arith, number_from-le (10 * leading + d) digits)

-- a number that is cut at the largest one may go on from there
number_from-min : (leading most : ℕ) (digits : List ℕ) → min (number_from (min leading most) digits) most ≡ min (number_from leading digits) most
number_from-min leading most digits = elim (cases_lt most leading) [
  | inl larger ↦ omega (arith, number_from-le leading digits, number_from-le (min leading most) digits)
  | inr fits ↦ ap (λ x. min (number_from x digits) most) (omega arith)
]

-- one digit more
pub size-digit : (size most digit : ℕ) (digits : List ℕ) → min (number_from (min (min (size * 10) most + digit) most) digits) most ≡ min (number_from (10 * size + digit) digits) most
size-digit size most digit digits =
    ap (λ x. min (number_from x digits) most) (omega arith) ∙ number_from-min (10 * size + digit) most digits

pub size-byte : (size most byte tens digit next : ℕ) → is_ascii_digit byte ≡ true → tens ≡ min (size * 10) most → digit ≡ byte - 48 → next ≡ min (tens + digit) most →
    (rest : List ℕ) → min (number_from next (digits_of rest)) most ≡ min (number_from size (digits_of (byte ∷ rest))) most
size-byte size most byte tens digit next is_one e f g rest =
    rw (g, f, e, is_one) (size-digit size most (byte - 48) (digits_of rest))

-- no byte is left
pub size-done : (size most : ℕ) (bytes all : List ℕ) (i : ℕ) → size ≤ most → length bytes ≤ i →
    min (number_from size (digits_of (drop i bytes))) most ≡ min (number_of (digits_of all)) most → size ≡ min (number_of (digits_of all)) most
size-done size most bytes all i small h e =
    let rest = ap (λ ds. min (number_from size (digits_of ds)) most) (drop_of_length-le bytes h) in
    omega (arith, rest, e)

module _ (mantissa exponent : List ℕ) (size places most : ℕ) (is_size : size ≡ min (exponent_size exponent) most) (is_places : places ≡ places_of mantissa) where
  pub value-negative : is_negative exponent ≡ true → length mantissa + 19 ≤ most → decimal (digits_of mantissa) 0 (size + places) ≡ value_of_parts mantissa exponent
  value-negative negative h = rw (is_size, is_places, negative) (lowered_saturated mantissa (exponent_size exponent) (places_of mantissa) most h)

  pub value-positive : is_negative exponent ≡ false → places + 19 ≤ most → decimal (digits_of mantissa) size places ≡ value_of_parts mantissa exponent
  value-positive positive h = rw (is_size, positive, is_places) (raised_saturated mantissa (exponent_size exponent) (places_of mantissa) most (rw is_places at h))
