-- A basis of the rows, row by row, and what it says of a target.
use Rattle.std.proofs.Common.{◌≡◌, refl, sym, ◌∙◌, ap, ap₂, subst, inl, inr, ℕ, zero, suc, ◌+◌, ◌<◌, ◌≤◌, Bool, true, false, eqb, List, [], ◌∷◌, ◌++◌, length, true≢false, arith}
use Rattle.std.specs.List.{AllByRecursion}
use Rattle.std.proofs.lemmas.Bool.{cases_lt, cases_eq, eqb-true, false_from_ne_true}
use Rattle.zx_model.specs.Bits.{xor, bit}
use Rattle.zx_bits.specs.Rows.{BitMatrix, row_at, flipped, xor_lists, parity_of}
use Rattle.zx_bits.specs.Solving.{zeros, sum_of_rows, IsSolution, IsDual}
use Rattle.zx_bits.specs.Internal.Elimination.{Summed, reduced, dual_of, IsEchelon, IsEvenWith, IsNew, IsBasis, IsPutIntoBasis}
use Rattle.zx_bits.specs.declared.solving.Reduced.{Reduced}
use Rattle.zx_bits.proofs.Lists.{bit-past}
use Rattle.zx_bits.proofs.Vectors.{length-zeros, length-flipped, length-xor, bit-zeros, bit-flipped, bit-xor, unset_is_zeros, xor_lists_comm, xor_lists-same, xor_lists-zeros, same_from_sum, parity_of-zeros, parity_of-one, place_within}
use Rattle.zx_bits.proofs.SumsOfRows.{AreRows, are_rows, length-sum_of_rows, sum_of-none, sum_of-xor, sum_of-one, sum_of-odd}
use Rattle.zx_bits.proofs.Eliminating.{HasLengths, lengths_reduced, pivots_unset, even_reduced, sum_reduced, from_reduced, length-dual, dual_even, dual_odd, either_set}

-- ---- one more at the end

each_map : (P Q : Reduced → Type 0) (basis : List Reduced) → ((b : Reduced) → P b → Q b) → AllByRecursion P basis → AllByRecursion Q basis
each_map P Q [] f all = tt
each_map P Q (b ∷ basis) f all = (f b all.0, each_map P Q basis f all.1)

each_push : (P : Reduced → Type 0) (basis : List Reduced) (b : Reduced) → AllByRecursion P basis → P b → AllByRecursion P (basis ++ b ∷ [])
each_push P [] b all last = (last, tt)
each_push P (c ∷ basis) b all last = (all.0, each_push P basis b all.1 last)

each_front : (P : Reduced → Type 0) (basis : List Reduced) (b : Reduced) → AllByRecursion P (basis ++ b ∷ []) → AllByRecursion P basis
each_front P [] b all = tt
each_front P (c ∷ basis) b all = (all.0, each_front P basis b all.1)

echelon_push : (basis : List Reduced) (b : Reduced) → IsEchelon basis → AllByRecursion (λ c. bit b.row.bits c.pivot ≡ false) basis → bit b.row.bits b.pivot ≡ true → IsEchelon (basis ++ b ∷ [])
echelon_push [] b echelon none set = (set, tt, tt)
echelon_push (c ∷ basis) b echelon none set = (echelon.0, each_push _ basis b echelon.1 none.0, echelon_push basis b echelon.2 none.1 set)

each_last : (P : Reduced → Type 0) (basis : List Reduced) (b : Reduced) → AllByRecursion P (basis ++ b ∷ []) → P b
each_last P [] b all = all.0
each_last P (c ∷ basis) b all = each_last P basis b all.1

unset_even : (row y : List Bool) (n : ℕ) → length row ≡ n → ((k : ℕ) → bit row k ≡ false) → parity_of row y ≡ false
unset_even row y n size none = ap (λ r. parity_of r y) (unset_is_zeros row n size none) ∙ parity_of-zeros n y

-- ---- a basis of the first rows, and the next row

-- a target, before it is reduced
abbrev pub target_row : BitMatrix → List Bool → Summed
target_row m target = record { row = target; from = zeros (length m.rows) }

-- the next row, before it is reduced
abbrev pub next_row : BitMatrix → ℕ → Summed
next_row m i = record { row = row_at m i; from = flipped (zeros (length m.rows)) i }

module _ (m : BitMatrix) (each : (r : ℕ) → r < length m.rows → length (row_at m r) ≡ m.columns) where
  rows_are : AreRows m.columns m.rows
  rows_are = are_rows m.columns m.rows each

  module _ (i : ℕ) (lt : i < length m.rows) (basis : List Reduced) (is : IsBasis m i basis) where
    next_lengths : HasLengths m.columns (length m.rows) (reduced basis (next_row m i))
    next_lengths =
        lengths_reduced m.columns (length m.rows) basis (next_row m i) is.sizes
        (each i lt, length-flipped (zeros (length m.rows)) i ∙ length-zeros (length m.rows))

    -- what the basis and the reduced row meet evenly, each row so far does
    next_spans : (y : List Bool) → length y ≡ m.columns → IsEvenWith y basis → parity_of (reduced basis (next_row m i)).row y ≡ false →
        (r : ℕ) → r < i + 1 → parity_of (row_at m r) y ≡ false
    next_spans y size even last r l =
        elim (cases_lt r i) [
          | inl before ↦ is.spans y size even r before
          | inr g ↦
              let here : r ≡ i = omega arith in
              ap (λ k. parity_of (row_at m k) y) here ∙ sym (even_reduced basis (next_row m i) y even) ∙ last
        ]

    pub basis_stays : ((k : ℕ) → bit (reduced basis (next_row m i)).row k ≡ false) → IsBasis m (i + 1) basis
    basis_stays none = record {
      sizes = is.sizes;
      echelon = is.echelon;
      sums = is.sums;
      spans = λ y size even. next_spans y size even (unset_even (reduced basis (next_row m i)).row y m.columns next_lengths.0 none);
    }

    module _ (pivot : ℕ) (set : bit (reduced basis (next_row m i)).row pivot ≡ true) where
      within : pivot < m.columns
      within = omega (arith, place_within (reduced basis (next_row m i)).row pivot set, next_lengths.0)

      length-start : length (flipped (zeros m.columns) pivot) ≡ m.columns
      length-start = length-flipped (zeros m.columns) pivot ∙ length-zeros m.columns

      is_new : IsNew m i
      is_new =
          let y = dual_of basis (flipped (zeros m.columns) pivot) in
          let even = dual_even m.columns (length m.rows) basis (flipped (zeros m.columns) pivot) length-start is.sizes is.echelon in
          let size = length-dual basis (flipped (zeros m.columns) pivot) ∙ length-start in
          record {
            witness = y;
            size = size;
            odd = sym (even_reduced basis (next_row m i) y even)
                ∙ dual_odd m.columns (length m.rows) basis (flipped (zeros m.columns) pivot) (reduced basis (next_row m i)).row length-start next_lengths.0 is.sizes (pivots_unset basis (next_row m i) is.echelon)
                ∙ parity_of-one (reduced basis (next_row m i)).row m.columns pivot next_lengths.0 within ∙ set;
            even = is.spans y size even;
          }

      only_itself : (r : ℕ) → bit (flipped (zeros (length m.rows)) i) r ≡ true → IsNew m r
      only_itself r e =
          let test : eqb r i ≡ true = sym (bit-flipped (zeros (length m.rows)) i r (omega (arith, length-zeros (length m.rows))) ∙ ap (λ b. xor b (eqb r i)) (bit-zeros (length m.rows) r)) ∙ e in
          subst (IsNew m) (sym (eqb-true r i test)) is_new

      pub basis_grows : (b : Reduced) → b.row.bits ≡ (reduced basis (next_row m i)).row → b.from.bits ≡ (reduced basis (next_row m i)).from → b.pivot ≡ pivot →
          IsBasis m (i + 1) (basis ++ b ∷ [])
      basis_grows b row from at = record {
        sizes = each_push _ basis b is.sizes (ap length row ∙ next_lengths.0, ap length from ∙ next_lengths.1, omega (arith, within));
        echelon = echelon_push basis b is.echelon
            (each_map _ _ basis (λ c e. ap (λ l. bit l c.pivot) row ∙ e) (pivots_unset basis (next_row m i) is.echelon))
            (ap₂ bit row at ∙ set);
        sums = each_push _ basis b is.sums (record {
          sum = ap (sum_of_rows m.columns m.rows) from ∙ sym summed ∙ sym row;
          new = λ r e. from_reduced (IsNew m) basis (next_row m i) (each_map _ _ basis (λ c n. n.new) is.sums) only_itself r (ap (λ l. bit l r) (sym from) ∙ e);
        });
        spans = λ y size even. next_spans y size (each_front _ basis b even) (ap (λ l. parity_of l y) (sym row) ∙ each_last _ basis b even);
      }
        where
          summed : (reduced basis (next_row m i)).row ≡ sum_of_rows m.columns m.rows (reduced basis (next_row m i)).from
          summed =
              let sum = sum_reduced m.columns m.rows basis (next_row m i) rows_are is.sizes
              (each i lt, length-flipped (zeros (length m.rows)) i ∙ length-zeros (length m.rows)) (each_map _ _ basis (λ c n. n.sum) is.sums)
              ∙ ap (xor_lists (row_at m i)) (sum_of-one m.columns m.rows i rows_are lt) ∙ xor_lists-same (row_at m i) m.columns (each i lt) in
              same_from_sum (reduced basis (next_row m i)).row _ (next_lengths.0 ∙ sym (length-sum_of_rows m.columns m.rows (reduced basis (next_row m i)).from rows_are))
              (λ k. ap (λ l. bit l k) sum ∙ bit-zeros m.columns k)

    pub basis_next : (row from : List Bool) (new : List Reduced) → row ≡ (reduced basis (next_row m i)).row → from ≡ (reduced basis (next_row m i)).from →
        IsPutIntoBasis row from basis new → IsBasis m (i + 1) new
    basis_next row from new same also (inl (none, stays)) = subst (IsBasis m (i + 1)) (sym stays) (basis_stays (λ k. ap (λ l. bit l k) (sym same) ∙ none k))
    basis_next row from new same also (inr (b, r, f, set, grown)) =
        subst (IsBasis m (i + 1)) (sym grown) (basis_grows b.pivot (ap (λ l. bit l b.pivot) (sym same) ∙ set) b (r ∙ same) (f ∙ also) refl)

  -- ---- a target

  module _ (target : List Bool) (fits : length target ≡ m.columns) (basis : List Reduced) (is : IsBasis m (length m.rows) basis) where
    rest_lengths : HasLengths m.columns (length m.rows) (reduced basis (target_row m target))
    rest_lengths = lengths_reduced m.columns (length m.rows) basis (target_row m target) is.sizes (fits, length-zeros (length m.rows))

    pub dual_is : (column : ℕ) → bit (reduced basis (target_row m target)).row column ≡ true →
        IsDual m target (dual_of basis (flipped (zeros m.columns) column))
    dual_is column set =
        let v = target_row m target in
        let within : column < m.columns = omega (arith, place_within (reduced basis v).row column set, rest_lengths.0) in
        let start = flipped (zeros m.columns) column in
        let size : length start ≡ m.columns = length-flipped (zeros m.columns) column ∙ length-zeros m.columns in
        let even = dual_even m.columns (length m.rows) basis start size is.sizes is.echelon in
        record {
          one_for_each_column = length-dual basis start ∙ size;
          even = is.spans (dual_of basis start) (length-dual basis start ∙ size) even;
          odd = sym (even_reduced basis v (dual_of basis start) even)
              ∙ dual_odd m.columns (length m.rows) basis start (reduced basis v).row size rest_lengths.0 is.sizes (pivots_unset basis v is.echelon)
              ∙ parity_of-one (reduced basis v).row m.columns column rest_lengths.0 within ∙ set;
        }

    -- new rows that sum to nothing are none
    none_of_new : (set : List Bool) → length set ≡ length m.rows → ((r : ℕ) → bit set r ≡ true → IsNew m r) → sum_of_rows m.columns m.rows set ≡ zeros m.columns →
        (n : ℕ) → ((r : ℕ) → n ≤ r → bit set r ≡ false) → (r : ℕ) → bit set r ≡ false
    none_of_new set size new sum zero after r = after r (omega arith)
    none_of_new set size new sum (suc n) after r =
        none_of_new set size new sum n
        (λ k le. elim (cases_eq k n) [
          | inl e ↦ ap (bit set) e ∙ false_from_ne_true (bit set n) last
          | inr apart ↦ after k (omega arith)
        ]) r
      where
        last : bit set n ≡ true → ⊥
        last e =
            let shown : IsNew m n = new n e in
            true≢false
            (sym (sum_of-odd m.columns m.rows set shown.witness n (omega (arith, place_within set n e, size)) e (λ k l. after k (omega arith)) shown.odd shown.even)
            ∙ ap (λ l. parity_of l shown.witness) sum ∙ parity_of-zeros m.columns shown.witness)

    pub solution_is : ((k : ℕ) → bit (reduced basis (target_row m target)).row k ≡ false) →
        IsSolution m target (reduced basis (target_row m target)).from
    solution_is none = record {
      one_for_each_row = rest_lengths.1;
      sum = sums;
      minimal = λ part size contained sum.
          same_from_sum part (reduced basis (target_row m target)).from (size ∙ sym rest_lengths.1)
          (none_of_new (xor_lists part (reduced basis (target_row m target)).from) (length-xor part (reduced basis (target_row m target)).from (rest_lengths.1 ∙ sym size) ∙ size)
          (λ r e. new r (elim (either_set (bit part r) (bit (reduced basis (target_row m target)).from r) (sym (bit-xor part (reduced basis (target_row m target)).from r) ∙ e)) [
            | inl l ↦ contained r l
            | inr g ↦ g
          ]))
          (sum_of-xor m.columns m.rows part (reduced basis (target_row m target)).from rows_are size rest_lengths.1 ∙ ap₂ xor_lists sum sums ∙ xor_lists-same target m.columns fits)
          (length (xor_lists part (reduced basis (target_row m target)).from)) (bit-past (xor_lists part (reduced basis (target_row m target)).from)));
    }
      where
        sums : sum_of_rows m.columns m.rows (reduced basis (target_row m target)).from ≡ target
        sums =
            sym (xor_lists_comm (zeros m.columns) _ ∙ xor_lists-zeros _ m.columns (length-sum_of_rows m.columns m.rows (reduced basis (target_row m target)).from rows_are))
            ∙ ap (λ l. xor_lists l (sum_of_rows m.columns m.rows (reduced basis (target_row m target)).from)) (sym (unset_is_zeros (reduced basis (target_row m target)).row m.columns rest_lengths.0 none))
            ∙ sum_reduced m.columns m.rows basis (target_row m target) rows_are is.sizes (fits, length-zeros (length m.rows)) (each_map _ _ basis (λ c n. n.sum) is.sums)
            ∙ ap (xor_lists target) (sum_of-none m.columns m.rows (length m.rows)) ∙ xor_lists-zeros target m.columns fits

        new : (r : ℕ) → bit (reduced basis (target_row m target)).from r ≡ true → IsNew m r
        new =
            from_reduced (IsNew m) basis (target_row m target) (each_map _ _ basis (λ c n. n.new) is.sums)
            (λ r e. absurd (true≢false (sym e ∙ bit-zeros (length m.rows) r)))
