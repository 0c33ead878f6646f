-- The qubits or bits of a range, and those of measurements.
use Rattle.std.proofs.Common.{◌≡◌, ℕ, zero, suc, ◌+◌, ◌-◌, ◌≤◌, ◌<◌, ◌==◌, nat_le, nat_lt, Bool, true, false, ◌||◌, ◌&&◌, List, [], ◌∷◌, map, None, Some, refl, sym, ap, ap₂, ◌∙◌, arith}
use Rattle.std.specs.List.{range_with_len}
use Rattle.std.proofs.Math.Nat.{zero-add}
use Rattle.std.proofs.lemmas.Bool.{false_from_ne_true, both_ways}
use Rattle.std.proofs.lemmas.Bool.Decides.{nat_tests}
use Rattle.zx_model.specs.Bits.{member}
use Rattle.zx_bits.specs.Rows.{IsFirstFrom}
use Rattle.qasm_scope.specs.Applications.{Range, Single, Register, element_at}
use Rattle.qasm_scope.specs.Measurements.{are_unlike, bits_of, count_in, holds, holds_any, measures_of, qubits_of}
use Rattle.qasm_unroll.proofs.MemberLemmas.{Once, any-member, any-none}

-- all of them
abbrev pub places : Range → ℕ → List ℕ
places t n = map (λ index. element_at index t) (range_with_len 0 n)

later-apart : (first here from n : ℕ) → here < from → member (first + here) (map (λ index. first + index) (range_with_len from n)) ≡ false
later-apart first here from zero h = refl
later-apart first here from (suc n) h =
    let other : (first + here == first + from) ≡ false = grind (arith, nat_tests) in
    ap₂ ◌||◌ other (later-apart first here (from + 1) n (omega arith))

register-once : (first from n : ℕ) → Once (map (λ index. first + index) (range_with_len from n))
register-once first from zero = tt
register-once first from (suc n) = (later-apart first from (from + 1) n (omega arith), register-once first (from + 1) n)

-- a range names each one once
pub places-once : (t : Range) → Once (places t (count_in t))
places-once (Single place) = (refl, tt)
places-once (Register first size) = register-once first 0 size

within-from : (b : Bool) (first from n number : ℕ) → (number == first + from) ≡ b → (b || member number (map (λ index. first + index) (range_with_len (from + 1) n))) ≡ true
    → (member number (map (λ index. first + index) (range_with_len (from + 1) n)) ≡ true → (nat_le first number && nat_lt number (first + ((from + 1) + n))) ≡ true)
    → (nat_le first number && nat_lt number (first + (from + suc n))) ≡ true
within-from true first from n number e h rest = let same : number ≡ first + from = grind (arith, nat_tests) in grind (arith, nat_tests)
within-from false first from n number e h rest = let again = rest h in let count : (from + 1) + n ≡ from + suc n = omega arith in ap (λ m. nat_le first number && nat_lt number (first + m)) (sym count) ∙ again

register-within : (first from n number : ℕ) → member number (map (λ index. first + index) (range_with_len from n)) ≡ true
    → (nat_le first number && nat_lt number (first + (from + n))) ≡ true
register-within first from zero number h = absurd (cc)
register-within first from (suc n) number h = within-from (number == first + from) first from n number refl h (register-within first (from + 1) n number)

single-within : (place number : ℕ) → ((number == place) || false) ≡ true → (place == number) ≡ true
single-within place number h = grind (arith, nat_tests)

-- and holds each
pub places-held : (t : Range) (number : ℕ) → member number (places t (count_in t)) ≡ true → holds t number ≡ true
places-held (Single place) number h = single-within place number h
places-held (Register first size) number h = sym (ap (λ m. nat_le first number && nat_lt number (first + m)) (zero-add size)) ∙ register-within first 0 size number h

-- where a range has none of the numbers, none of its own is among them
pub places-apart : (t : Range) (numbers : List ℕ) → holds_any numbers t ≡ false → (number : ℕ) → member number (places t (count_in t)) ≡ true → member number numbers ≡ false
places-apart t numbers none number m =
    false_from_ne_true (member number numbers) (λ k. both_ways (holds_any numbers t) none (any-member (holds t) number numbers k (places-held t number m)))

qubits-at : (from to : Range) (indices : List ℕ) → qubits_of (map (λ index. record { qubit = element_at index from; bit = element_at index to }) indices) ≡ map (λ index. element_at index from) indices
qubits-at from to [] = refl
qubits-at from to (index ∷ indices) = ap (λ qs. element_at index from ∷ qs) (qubits-at from to indices)

bits-at : (from to : Range) (indices : List ℕ) → bits_of (map (λ index. record { qubit = element_at index from; bit = element_at index to }) indices) ≡ map (λ index. element_at index to) indices
bits-at from to [] = refl
bits-at from to (index ∷ indices) = ap (λ qs. element_at index to ∷ qs) (bits-at from to indices)

pub same-count : (from to : Range) → are_unlike from to ≡ false → count_in from ≡ count_in to
same-count (Single qubit) (Single bit) h = refl
same-count (Register first size) (Register other bits) h = grind (arith, nat_tests)
same-count _ _ h = absurd (cc)

-- the qubits and the bits of a measurement are those of its ranges
pub measured-qubits : (from to : Range) → qubits_of (measures_of from to) ≡ places from (count_in from)
measured-qubits from to = qubits-at from to (range_with_len 0 (count_in from))

pub measured-bits : (from to : Range) → are_unlike from to ≡ false → bits_of (measures_of from to) ≡ places to (count_in to)
measured-bits from to h = bits-at from to (range_with_len 0 (count_in from)) ∙ ap (places to) (same-count from to h)

-- ---- sets of numbers and ranges
pub single-held : (place : ℕ) (set : List ℕ) → member place set ≡ holds_any set (Single place)
single-held place [] = refl
single-held place (number ∷ set) = ap (λ b. (place == number) || b) (single-held place set)

-- none of the set is from here on up to a number
none-before : (set : List ℕ) (first size : ℕ) → ((number : ℕ) → first ≤ number → number < first + size → member number set ≡ false) → holds_any set (Register first size) ≡ false
none-before set first size none = any-none (holds (Register first size)) set (λ number m.
    false_from_ne_true (holds (Register first size) number) (λ k.
    let low : first ≤ number = grind (arith, nat_tests) in
    let high : number < first + size = grind (arith, nat_tests) in
    both_ways (member number set) (none number low high) m))

first-at : (b : Bool) (set : List ℕ) (first size place : ℕ) → nat_lt (place - first) size ≡ b → IsFirstFrom (λ number. member number set) first (Some place)
    → b ≡ holds_any set (Register first size)
first-at true set first size place e f =
    let low = f.0 in
    let inside : holds (Register first size) place ≡ true = grind (arith, nat_tests) in
    sym (any-member (holds (Register first size)) place set f.1 inside)
first-at false set first size place e f =
    let low = f.0 in
    let past : first + size ≤ place = grind (arith, nat_tests) in
    sym (none-before set first size (λ number from to. f.2 number from (omega (arith, past, to))))

pub first-held : (set : List ℕ) (first size place : ℕ) → IsFirstFrom (λ number. member number set) first (Some place) → nat_lt (place - first) size ≡ holds_any set (Register first size)
first-held set first size place f = first-at (nat_lt (place - first) size) set first size place refl f

pub none-held-from : (set : List ℕ) (first size : ℕ) → IsFirstFrom (λ number. member number set) first None → false ≡ holds_any set (Register first size)
none-held-from set first size f = sym (none-before set first size (λ number from to. f number from))
