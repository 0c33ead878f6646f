-- Numerals, cut off at a largest number.
use Rattle.std.proofs.Common.{◌≡◌, ℕ, ◌+◌, ◌*◌, ◌-◌, ◌≤◌, inl, inr, List, [], ◌∷◌, length, drop, min, ap, ◌∙◌, arith}
use Rattle.std.proofs.Math.ListN.{drop_of_length-le}
use Rattle.std.proofs.lemmas.Bool.{cases_lt}
use Rattle.qasm_scope.specs.Scope.{numeral}
use Rattle.qasm_scope.specs.Internal.Numerals.{numeral_from}

numeral_from-le : (n : ℕ) (digits : List ℕ) → n ≤ numeral_from n digits
numeral_from-le n [] = omega arith
numeral_from-le n (d ∷ digits) = omega (arith, numeral_from-le (10 * n + (d - 48)) digits)

pub numeral_from-min : (n most : ℕ) (digits : List ℕ) → min (numeral_from (min n most) digits) most ≡ min (numeral_from n digits) most
numeral_from-min n most digits = elim (cases_lt most n) [
  | inl larger ↦ omega (arith, numeral_from-le n digits, numeral_from-le (min n most) digits)
  | inr fits ↦ ap (λ x. min (numeral_from x digits) most) (omega arith)
]

pub one_more : (n most d : ℕ) (digits : List ℕ) → min (numeral_from (min (min (n * 10) most + d) most) digits) most ≡ min (numeral_from (10 * n + d) digits) most
one_more n most d digits =
    ap (λ x. min (numeral_from x digits) most) (omega arith) ∙ numeral_from-min (10 * n + d) most digits

pub one_digit : (n most d tens digit next : ℕ) → tens ≡ min (n * 10) most → digit ≡ d - 48 → next ≡ min (tens + digit) most
    → (rest : List ℕ) → min (numeral_from next rest) most ≡ min (numeral_from n (d ∷ rest)) most
one_digit n most d tens digit next e f g rest =
    ap (λ x. min (numeral_from x rest) most) (g ∙ ap (λ t. min (t + digit) most) e ∙ ap (λ x. min (min (n * 10) most + x) most) f)
    ∙ one_more n most (d - 48) rest

-- no digit is left
pub numeral-done : (n most : ℕ) (digits all : List ℕ) (i : ℕ) → n ≤ most → length digits ≤ i
    → min (numeral_from n (drop i digits)) most ≡ min (numeral_from 0 all) most → n ≡ min (numeral all) most
unfolding numeral
numeral-done n most digits all i small h e =
    let rest = ap (λ ds. min (numeral_from n ds) most) (drop_of_length-le digits h) in
    omega (arith, rest, e)
