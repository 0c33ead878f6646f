-- Sums of rows: they are linear in the set, and what they have in common with a list.
use Rattle.std.proofs.Common.{◌≡◌, refl, sym, ◌∙◌, ap, ap₂, ℕ, zero, suc, ◌<◌, Bool, true, false, if◌then◌else◌, List, [], ◌∷◌, length, get_or, arith}
use Rattle.std.specs.List.{AllByRecursion}
use Rattle.zx_model.specs.Bits.{xor, bit}
use Rattle.zx_bits.specs.Rows.{flipped, xor_lists, parity_of}
use Rattle.zx_bits.specs.Solving.{zeros, sum_of_rows}
use Rattle.zx_bits.proofs.Vectors.{length-zeros, length-xor, xor_lists_comm, interchange, xor_lists-same, xor_lists-zeros, parity_of-zeros, parity_of-xor}

-- each row has so many bits
abbrev pub AreRows : ℕ → List (List Bool) → Type 0
AreRows columns rows = AllByRecursion (λ row. length row ≡ columns) rows

pub are_rows : (columns : ℕ) (rows : List (List Bool)) → ((r : ℕ) → r < length rows → length (get_or rows r []) ≡ columns) → AreRows columns rows
are_rows columns [] each = tt
are_rows columns (row ∷ rows) each = (each 0 (omega arith), are_rows columns rows (λ r lt. each (suc r) (omega arith)))

pub length-sum_of_rows : (columns : ℕ) (rows : List (List Bool)) (set : List Bool) → AreRows columns rows → length (sum_of_rows columns rows set) ≡ columns
length-sum_of_rows columns [] set each = length-zeros columns
length-sum_of_rows columns (row ∷ rows) [] each = length-zeros columns
length-sum_of_rows columns (row ∷ rows) (picked ∷ set) each =
    length-xor _ _ (length-sum_of_rows columns rows set each.1 ∙ sym (size picked)) ∙ size picked
  where
    size : (b : Bool) → length (if b then row else zeros columns) ≡ columns
    size true = each.0
    size false = length-zeros columns

pub sum_of-none : (columns : ℕ) (rows : List (List Bool)) (n : ℕ) → sum_of_rows columns rows (zeros n) ≡ zeros columns
sum_of-none columns [] n = refl
sum_of-none columns (row ∷ rows) zero = refl
sum_of-none columns (row ∷ rows) (suc n) = ap (xor_lists (zeros columns)) (sum_of-none columns rows n) ∙ xor_lists-same (zeros columns) columns (length-zeros columns)

pub sum_of-xor : (columns : ℕ) (rows : List (List Bool)) (a b : List Bool) → AreRows columns rows → length a ≡ length rows → length b ≡ length rows →
    sum_of_rows columns rows (xor_lists a b) ≡ xor_lists (sum_of_rows columns rows a) (sum_of_rows columns rows b)
sum_of-xor columns [] a b each p q = sym (xor_lists-same (zeros columns) columns (length-zeros columns))
sum_of-xor columns (row ∷ rows) [] b each p q = absurd (omega arith)
sum_of-xor columns (row ∷ rows) (x ∷ a) [] each p q = absurd (omega arith)
sum_of-xor columns (row ∷ rows) (x ∷ a) (y ∷ b) each p q =
    ap₂ xor_lists (picked x y) (sum_of-xor columns rows a b each.1 (omega arith) (omega arith)) ∙ interchange (if x then row else zeros columns) (if y then row else zeros columns) _ _
  where
    picked : (x y : Bool) → (if xor x y then row else zeros columns) ≡ xor_lists (if x then row else zeros columns) (if y then row else zeros columns)
    picked true true = sym (xor_lists-same row columns each.0)
    picked true false = sym (xor_lists-zeros row columns each.0)
    picked false true = sym (xor_lists_comm (zeros columns) row ∙ xor_lists-zeros row columns each.0)
    picked false false = sym (xor_lists-same (zeros columns) columns (length-zeros columns))

-- the sum of one row
pub sum_of-one : (columns : ℕ) (rows : List (List Bool)) (r : ℕ) → AreRows columns rows → r < length rows →
    sum_of_rows columns rows (flipped (zeros (length rows)) r) ≡ get_or rows r []
sum_of-one columns [] r each lt = absurd (omega arith)
sum_of-one columns (row ∷ rows) zero each lt = ap (xor_lists row) (sum_of-none columns rows (length rows)) ∙ xor_lists-zeros row columns each.0
sum_of-one columns (row ∷ rows) (suc r) each lt =
    ap (xor_lists (zeros columns)) (sum_of-one columns rows r each.1 (omega arith)) ∙ xor_lists_comm (zeros columns) _
    ∙ xor_lists-zeros (get_or rows r []) columns (at rows r each.1 (omega arith))
  where
    at : (rows : List (List Bool)) (r : ℕ) → AreRows columns rows → r < length rows → length (get_or rows r []) ≡ columns
    at [] r each lt = absurd (omega arith)
    at (row ∷ rows) zero each lt = each.0
    at (row ∷ rows) (suc r) each lt = at rows r each.1 (omega arith)

-- where a row that isn't picked, or is even, is first
parity_of-row : (columns : ℕ) (row y : List Bool) (picked : Bool) → parity_of row y ≡ false → parity_of (if picked then row else zeros columns) y ≡ false
parity_of-row columns row y true even = even
parity_of-row columns row y false even = parity_of-zeros columns y

-- a sum of rows that each meet y evenly meets it evenly
pub sum_of-even : (columns : ℕ) (rows : List (List Bool)) (set y : List Bool) → ((r : ℕ) → r < length rows → parity_of (get_or rows r []) y ≡ false) →
    parity_of (sum_of_rows columns rows set) y ≡ false
sum_of-even columns [] set y even = parity_of-zeros columns y
sum_of-even columns (row ∷ rows) [] y even = parity_of-zeros columns y
sum_of-even columns (row ∷ rows) (picked ∷ set) y even =
    parity_of-xor _ (sum_of_rows columns rows set) y
    ∙ ap₂ xor (parity_of-row columns row y picked (even 0 (omega arith))) (sum_of-even columns rows set y (λ r lt. even (suc r) (omega arith)))

sum_of-unset : (columns : ℕ) (rows : List (List Bool)) (set y : List Bool) → ((r : ℕ) → bit set r ≡ false) → parity_of (sum_of_rows columns rows set) y ≡ false
sum_of-unset columns [] set y none = parity_of-zeros columns y
sum_of-unset columns (row ∷ rows) [] y none = parity_of-zeros columns y
sum_of-unset columns (row ∷ rows) (picked ∷ set) y none =
    parity_of-xor _ (sum_of_rows columns rows set) y
    ∙ ap₂ xor (ap (λ b. parity_of (if b then row else zeros columns) y) (none 0) ∙ parity_of-zeros columns y) (sum_of-unset columns rows set y (λ r. none (suc r)))

-- where of the rows picked the last is odd with y and those before it are even, the sum is odd
pub sum_of-odd : (columns : ℕ) (rows : List (List Bool)) (set y : List Bool) (last : ℕ) → last < length rows → bit set last ≡ true →
    ((r : ℕ) → last < r → bit set r ≡ false) → parity_of (get_or rows last []) y ≡ true → ((r : ℕ) → r < last → parity_of (get_or rows r []) y ≡ false) →
    parity_of (sum_of_rows columns rows set) y ≡ true
sum_of-odd columns [] set y last lt here after odd even = absurd (omega arith)
sum_of-odd columns (row ∷ rows) [] y last lt here after odd even = cc
sum_of-odd columns (row ∷ rows) (picked ∷ set) y zero lt here after odd even =
    parity_of-xor _ (sum_of_rows columns rows set) y
    ∙ ap₂ xor (ap (λ b. parity_of (if b then row else zeros columns) y) here ∙ odd) (sum_of-unset columns rows set y (λ r. after (suc r) (omega arith)))
sum_of-odd columns (row ∷ rows) (picked ∷ set) y (suc last) lt here after odd even =
    parity_of-xor _ (sum_of_rows columns rows set) y
    ∙ ap₂ xor (parity_of-row columns row y picked (even 0 (omega arith)))
    (sum_of-odd columns rows set y last (omega arith) here (λ r l. after (suc r) (omega arith)) odd (λ r l. even (suc r) (omega arith)))
