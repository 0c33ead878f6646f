-- Rows of a set alone: their sums, and a least part of them.
use Rattle.std.proofs.Common.{◌≡◌, refl, sym, ◌∙◌, ap, ap₂, inl, inr, ℕ, suc, ◌+◌, ◌<◌, ◌≤◌, Bool, true, false, ◌&&◌, if◌then◌else◌, eqb, ltb, List, [], ◌∷◌, ◌++◌, length, get_or, filter, true≢false, arith}
use Rattle.std.proofs.lemmas.List.{get_or_push}
use Rattle.std.proofs.Math.Seq.{set-append_seam}
use Rattle.std.proofs.lemmas.List.Sums.{length-filter}
use Rattle.std.proofs.lemmas.Bool.{cases_lt, cases_eq, lt-ltb, le-ltb, eq-eqb, ne_eqb}
use Rattle.zx_model.specs.Bits.{xor, bit}
use Rattle.zx_model.proofs.BitLemmas.{xor-false}
use Rattle.zx_bits.specs.Rows.{BitMatrix, row_at, with_row, flipped, xor_lists, parity_of}
use Rattle.zx_bits.specs.Solving.{zeros, sum_of_rows, IsContained, IsSolution, IsDual}
use Rattle.zx_bits.specs.Internal.Words.{tabulated}
use Rattle.zx_bits.proofs.Lists.{length-tabulated, tabulated-same, bit-tabulated, tabulated-bits, tabulated-unset, flipped-tabulated}
use Rattle.zx_bits.proofs.Vectors.{place_within}
use Rattle.zx_bits.proofs.SumsOfRows.{sum_of-even}
use Rattle.zx_extract.specs.Choosing.{member_count}
use Rattle.zx_extract.specs.Internal.Choosing.{HasOnly}

-- ---- a part has no more members

fewer_in_part : (part whole : List Bool) → length part ≡ length whole → IsContained part whole → member_count part ≤ member_count whole
fewer_in_part part whole size contained =
    omega (arith, length-filter (λ (b : Bool). b) part, length-filter (λ (b : Bool). b) whole, fewer part whole size contained)
  where
    fewer : (part whole : List Bool) → length part ≡ length whole → IsContained part whole → length (filter (λ (b : Bool). b) part) ≤ length (filter (λ (b : Bool). b) whole)
    fewer [] whole size contained = omega arith
    fewer (x ∷ part) [] size contained = absurd (omega arith)
    fewer (true ∷ part) (true ∷ whole) size contained = omega (arith, fewer part whole (omega arith) (λ place. contained (suc place)))
    fewer (true ∷ part) (false ∷ whole) size contained = absurd (true≢false (sym (contained 0 refl)))
    fewer (false ∷ part) (true ∷ whole) size contained = omega (arith, fewer part whole (omega arith) (λ place. contained (suc place)))
    fewer (false ∷ part) (false ∷ whole) size contained = fewer part whole (omega arith) (λ place. contained (suc place))

-- ---- sums of the rows of a set

-- what each place adds decides the sum
sums_same : (columns : ℕ) (rows other : List (List Bool)) (a b : List Bool) → length other ≡ length rows → length a ≡ length rows → length b ≡ length rows →
    ((r : ℕ) → r < length rows → (if bit a r then get_or rows r [] else zeros columns) ≡ (if bit b r then get_or other r [] else zeros columns)) →
    sum_of_rows columns rows a ≡ sum_of_rows columns other b
sums_same columns [] [] a b p q s same = refl
sums_same columns [] (o ∷ other) a b p q s same = absurd (omega arith)
sums_same columns (row ∷ rows) [] a b p q s same = absurd (omega arith)
sums_same columns (row ∷ rows) (o ∷ other) [] b p q s same = absurd (omega arith)
sums_same columns (row ∷ rows) (o ∷ other) (x ∷ a) [] p q s same = absurd (omega arith)
sums_same columns (row ∷ rows) (o ∷ other) (x ∷ a) (y ∷ b) p q s same =
    ap₂ xor_lists (same 0 (omega arith)) (sums_same columns rows other a b (omega arith) (omega arith) (omega arith) (λ r lt. same (suc r) (omega arith)))

module _ (m only : BitMatrix) (kept : List Bool) (size : length kept ≡ length m.rows) (is : HasOnly m kept (length m.rows) only) where
  -- a set of kept rows sums to the same in both matrices
  same_sum : (set : List Bool) → length set ≡ length m.rows → IsContained set kept → sum_of_rows only.columns only.rows set ≡ sum_of_rows m.columns m.rows set
  same_sum set fits contained =
      ap (λ n. sum_of_rows n only.rows set) is.columns
      ∙ sym (sums_same m.columns m.rows only.rows set set is.height fits fits
      (λ r lt. adds (bit set r) (bit kept r) (row_at m r) (row_at only r) (contained r) (is.rows r lt)))
    where
      adds : (b k : Bool) (row other : List Bool) → (b ≡ true → k ≡ true) → other ≡ (if k then row else zeros m.columns) → (if b then row else zeros m.columns) ≡ (if b then other else zeros m.columns)
      adds false k row other in_kept e = refl
      adds true true row other in_kept e = sym e
      adds true false row other in_kept e = absurd (true≢false (sym (in_kept refl)))

  -- the kept rows sum to what they did, so they have no dual
  pub never_none : (target dual : List Bool) → sum_of_rows m.columns m.rows kept ≡ target → IsDual only target dual → ⊥
  never_none target dual sum is_dual =
      true≢false
      (sym is_dual.odd ∙ ap (λ l. parity_of l dual) (sym (same_sum kept size (λ place e. e) ∙ sum))
      ∙ sum_of-even only.columns only.rows kept dual is_dual.even)

  module _ (target set : List Bool) (solves : IsSolution only target set) where
    fits : length set ≡ length m.rows
    fits = solves.one_for_each_row ∙ is.height

    -- a row that isn't kept adds nothing, so a least set has none
    part_of_kept : IsContained set kept
    part_of_kept place e =
        second (bit set place) (bit kept place)
        (sym (bit-tabulated (length m.rows) _ place (omega (arith, place_within set place e, fits))) ∙ ap (λ l. bit l place) same ∙ e)
      where
        both : List Bool
        both = tabulated (length m.rows) (λ r. bit set r && bit kept r)

        size_both : length both ≡ length m.rows
        size_both = length-tabulated (length m.rows) _

        first : (a b : Bool) → a && b ≡ true → a ≡ true
        first true b e = refl
        first false b e = e

        second : (a b : Bool) → a && b ≡ true → b ≡ true
        second true b e = e
        second false b e = absurd (true≢false (sym e))

        adds : (b k : Bool) (row other : List Bool) → other ≡ (if k then row else zeros m.columns) → (if (b && k) then other else zeros m.columns) ≡ (if b then other else zeros m.columns)
        adds false k row other e = refl
        adds true true row other e = refl
        adds true false row other e = sym e

        same : both ≡ set
        same =
            solves.minimal both (size_both ∙ sym is.height)
            (λ r b. first (bit set r) (bit kept r) (sym (bit-tabulated (length m.rows) _ r (omega (arith, place_within both r b, size_both))) ∙ b))
            (ap (λ n. sum_of_rows n only.rows both) is.columns
            ∙ sums_same m.columns only.rows only.rows both set refl (size_both ∙ sym is.height) solves.one_for_each_row
            (λ r lt. ap (λ b. if b then row_at only r else zeros m.columns) (bit-tabulated (length m.rows) _ r (omega (arith, lt, is.height)))
            ∙ adds (bit set r) (bit kept r) (row_at m r) (row_at only r) (is.rows r (omega (arith, lt, is.height))))
            ∙ ap (λ n. sum_of_rows n only.rows set) (sym is.columns)
            ∙ solves.sum)

    pub no_more : member_count set ≤ member_count kept
    no_more = fewer_in_part set kept (fits ∙ sym size) part_of_kept

    pub solves_whole : IsSolution m target set
    solves_whole = record {
      one_for_each_row = fits;
      sum = sym (same_sum set fits part_of_kept) ∙ solves.sum;
      minimal = λ part part_fits contained sum.
          solves.minimal part (part_fits ∙ sym is.height) contained
          (same_sum part part_fits (λ place e. part_of_kept place (contained place e)) ∙ sum);
    }

-- ---- the rows of a set, one by one

-- ---- a row, bit by bit

-- the first c bits of a row
abbrev pub first_bits : ℕ → List Bool → ℕ → List Bool
first_bits columns row c = tabulated columns (λ place. ltb place c && bit row place)

-- the matrix with one more row
abbrev pub with_last : BitMatrix → List Bool → BitMatrix
with_last m row = record m { rows = m.rows ++ row ∷ [] }

-- the matrix with the first c bits of a row as its last row
abbrev pub with_copied : BitMatrix → List Bool → ℕ → BitMatrix
with_copied m row c = with_last m (first_bits m.columns row c)

pub no_bits : (columns : ℕ) (row : List Bool) → first_bits columns row 0 ≡ zeros columns
no_bits columns row = tabulated-unset columns (λ k. ltb k 0 && bit row k) (λ k. ap (λ p. p && bit row k) (le-ltb k 0 (omega arith)))

pub all_bits : (columns : ℕ) (row : List Bool) → length row ≡ columns → first_bits columns row columns ≡ row
all_bits columns row size =
    tabulated-same columns _ (bit row) (λ k lt. ap (λ b. b && bit row k) (lt-ltb k columns lt)) ∙ tabulated-bits row columns size

-- a place further is read as well
pub more_bits : (columns : ℕ) (row : List Bool) (c : ℕ) → bit row c ≡ true → flipped (first_bits columns row c) c ≡ first_bits columns row (c + 1)
more_bits columns row c set = flipped-tabulated columns _ c ∙ tabulated-same columns _ _ (λ k lt. at k)
  where
    at : (k : ℕ) → xor (ltb k c && bit row k) (eqb k c) ≡ ltb k (c + 1) && bit row k
    at k = elim (cases_lt k c) [
      | inl l ↦
          ap₂ (λ p e. xor (p && bit row k) e) (lt-ltb k c l) (ne_eqb k c (λ e. omega arith)) ∙ xor-false (bit row k)
          ∙ ap (λ p. p && bit row k) (sym (lt-ltb k (c + 1) (omega arith)))
      | inr g ↦ elim (cases_eq k c) [
        | inl e ↦
            ap₂ (λ p e. xor (p && bit row k) e) (le-ltb k c g) (eq-eqb k c e)
            ∙ sym (ap₂ (λ p b. p && b) (lt-ltb k (c + 1) (omega arith)) (ap (bit row) e ∙ set))
        | inr apart ↦
            ap₂ (λ p e. xor (p && bit row k) e) (le-ltb k c g) (ne_eqb k c apart)
            ∙ ap (λ p. p && bit row k) (sym (le-ltb k (c + 1) (omega arith)))
      ]
    ]

pub copied_more : (m old new : BitMatrix) (row : List Bool) (c last : ℕ) → last ≡ length m.rows → old ≡ with_copied m row c →
    new ≡ with_row old last (flipped (row_at old last) c) → bit row c ≡ true → new ≡ with_copied m row (c + 1)
copied_more m old new row c last at was is set =
    is ∙ ap₂ (λ (n : BitMatrix) k. with_row n k (flipped (row_at n k) c)) was at
    ∙ ap (λ x. with_row (with_copied m row c) (length m.rows) (flipped x c)) (get_or_push m.rows (first_bits m.columns row c) [] (length m.rows) refl)
    ∙ ap (λ rows. record m { rows = rows }) (set-append_seam m.rows (first_bits m.columns row c) [] (flipped (first_bits m.columns row c) c))
    ∙ ap (with_last m) (more_bits m.columns row c set)

pub unset_more : (columns : ℕ) (row : List Bool) (c : ℕ) → bit row c ≡ false → first_bits columns row c ≡ first_bits columns row (c + 1)
unset_more columns row c unset = tabulated-same columns _ _ (λ k lt. at k)
  where
    at : (k : ℕ) → ltb k c && bit row k ≡ ltb k (c + 1) && bit row k
    at k = elim (cases_eq k c) [
      | inl e ↦ ap₂ (λ p b. p && b) (le-ltb k c (omega arith)) (ap (bit row) e ∙ unset) ∙ sym (ap₂ (λ p b. p && b) (lt-ltb k (c + 1) (omega arith)) (ap (bit row) e ∙ unset))
      | inr apart ↦ elim (cases_lt k c) [
        | inl l ↦ ap (λ p. p && bit row k) (lt-ltb k c l ∙ sym (lt-ltb k (c + 1) (omega arith)))
        | inr g ↦ ap (λ p. p && bit row k) (le-ltb k c g ∙ sym (le-ltb k (c + 1) (omega arith)))
      ]
    ]
