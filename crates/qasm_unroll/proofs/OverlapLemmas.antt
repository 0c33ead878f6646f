-- Arguments that are the same qubit in an instance.
use Rattle.std.proofs.Common.{◌≡◌, ℕ, zero, suc, ◌+◌, ◌==◌, nat_lt, Bool, true, false, ◌&&◌, ◌||◌, List, [], ◌∷◌, map, refl, sym, ap, ap₂, ◌∙◌, arith}
use Rattle.std.specs.List.{list_any, range_with_len}
use Rattle.std.proofs.lemmas.Bool.Decides.{nat_tests}
use Rattle.qasm_scope.specs.Applications.{Range, Single, Register, element_at, has_twice}
use Rattle.qasm_unroll.specs.Internal.Spans.{is_within, overlaps, any_overlap}
use Rattle.qasm_names.proofs.Tests.{any_map, any_or, list_any-same}
use Rattle.std.proofs.lemmas.Bool.{and_right}

any-none : {A : Type 0} (xs : List A) → list_any (λ x. false) xs ≡ false
any-none [] = refl
any-none (x ∷ xs) = any-none xs

-- a test of two is met by some of the first and some of the second, in either order
any-exchange : {A B : Type 0} (p : A → B → Bool) (xs : List A) (ys : List B) → list_any (λ x. list_any (p x) ys) xs ≡ list_any (λ y. list_any (λ x. p x y) xs) ys
any-exchange p xs [] = any-none xs
any-exchange p xs (y ∷ ys) =
    any_or (λ x. p x y) (λ x. list_any (p x) ys) xs ∙ ap (λ b. list_any (λ x. p x y) xs || b) (any-exchange p xs ys)

or-idle : (b c d : Bool) → d ≡ true → (b || (b && c)) ≡ (b && d)
or-idle true c d h = sym h
or-idle false c d h = refl

-- a test that doesn't look at the number
any-constant : (b : Bool) (start n : ℕ) → list_any (λ i. b) (range_with_len start n) ≡ (b && nat_lt 0 n)
any-constant b start zero = sym (and_right b false refl)
any-constant b start (suc n) = ap (λ c. b || c) (any-constant b (start + 1) n) ∙ or-idle b (nat_lt 0 n) (nat_lt 0 (suc n)) (grind (arith, nat_tests))

-- one of the numbers from a place on is this one
any-within : (qubit first start n : ℕ) → list_any (λ i. qubit == first + i) (range_with_len start n) ≡ is_within qubit (first + start) n
any-within qubit first start zero = grind (arith, nat_tests)
any-within qubit first start (suc n) = ap (λ b. (qubit == first + start) || b) (any-within qubit first (start + 1) n) ∙ grind (arith, nat_tests)

pub overlaps-any : (count : ℕ) (t u : Range) → list_any (λ i. element_at i u == element_at i t) (range_with_len 0 count) ≡ overlaps count t u
overlaps-any count (Single qubit) (Single same) = any-constant (same == qubit) 0 count
overlaps-any count (Single qubit) (Register first size) =
    list_any-same (λ i. first + i == qubit) (λ i. qubit == first + i) (range_with_len 0 count) (λ i. grind (arith, nat_tests))
    ∙ any-within qubit first 0 count ∙ ap (λ f. is_within qubit f count) (omega arith)
overlaps-any count (Register first size) (Single qubit) = any-within qubit first 0 count ∙ ap (λ f. is_within qubit f count) (omega arith)
overlaps-any count (Register first size) (Register same size') =
    list_any-same (λ i. same + i == first + i) (λ i. same == first) (range_with_len 0 count) (λ i. grind (arith, nat_tests))
    ∙ any-constant (same == first) 0 count

-- one range against others
against : (count : ℕ) (t : Range) (ranges : List Range)
    → list_any (λ i. list_any (λ m. m == element_at i t) (map (element_at i) ranges)) (range_with_len 0 count) ≡ list_any (overlaps count t) ranges
against count t ranges =
    list_any-same _ (λ i. list_any (λ u. element_at i u == element_at i t) ranges) (range_with_len 0 count) (λ i. any_map (λ m. m == element_at i t) (element_at i) ranges)
    ∙ any-exchange (λ i u. element_at i u == element_at i t) (range_with_len 0 count) ranges
    ∙ list_any-same _ (overlaps count t) ranges (overlaps-any count t)

twice-in : (count : ℕ) (ranges : List Range)
    → list_any (λ i. has_twice ◌==◌ (map (element_at i) ranges)) (range_with_len 0 count) ≡ any_overlap count ranges
twice-in count [] = any-none (range_with_len 0 count)
twice-in count (t ∷ ranges) =
    any_or (λ i. list_any (λ m. m == element_at i t) (map (element_at i) ranges)) (λ i. has_twice ◌==◌ (map (element_at i) ranges)) (range_with_len 0 count)
    ∙ ap₂ (λ a b. a || b) (against count t ranges) (twice-in count ranges)

-- a qubit stands twice in an instance where two ranges overlap
pub twice-overlap : (count : ℕ) (ranges : List Range)
    → any_overlap count ranges ≡ list_any (has_twice ◌==◌) (map (λ i. map (element_at i) ranges) (range_with_len 0 count))
twice-overlap count ranges = sym (any_map (has_twice ◌==◌) (λ i. map (element_at i) ranges) (range_with_len 0 count) ∙ twice-in count ranges)
