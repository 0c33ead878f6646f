-- What reducing a row by a basis leaves, and the list that meets all of a basis evenly.
use Rattle.std.proofs.Common.{◌≡◌, refl, sym, ◌∙◌, ap, ap₂, inl, inr, ◌⊎◌, ℕ, zero, suc, ◌+◌, ◌<◌, Bool, true, false, List, [], ◌∷◌, length, drop, get_or, subst, arith}
use Rattle.std.specs.List.{AllByRecursion}
use Rattle.std.proofs.lemmas.Bool.{cond_both}
use Rattle.std.proofs.lemmas.List.{drop_more}
use Rattle.zx_model.specs.Bits.{xor, bit}
use Rattle.zx_bits.specs.Rows.{xor_lists, parity_of}
use Rattle.zx_bits.specs.Solving.{sum_of_rows}
use Rattle.zx_bits.specs.Internal.Elimination.{Summed, added_at_pivot, reduced, evened, dual_of, HasSize, HasSizes, IsEchelon, IsEvenWith}
use Rattle.zx_bits.specs.declared.solving.Reduced.{Reduced}
use Rattle.zx_model.proofs.BitLemmas.{xor-false}
use Rattle.zx_bits.proofs.Vectors.{length-xor, length-flipped, bit-xor, interchange, xor_lists-same, xor_lists-zeros, parity_of-xor, parity_of-flipped}
use Rattle.zx_bits.proofs.SumsOfRows.{AreRows, length-sum_of_rows, sum_of-xor}

abbrev pub HasLengths : ℕ → ℕ → Summed → Type 0
HasLengths columns height v = (length v.row ≡ columns) × (length v.from ≡ height)

-- what holds of v, and of v with one of the basis added, holds after a step
stepping : (P : Summed → Type 0) (b : Reduced) (v : Summed) → P v → (bit v.row b.pivot ≡ true → P (record { row = xor_lists v.row b.row.bits; from = xor_lists v.from b.from.bits })) → P (added_at_pivot b v)
stepping P b v same added = cond_both (bit v.row b.pivot) _ v P added (λ e. same)

pub lengths_step : (columns height : ℕ) (b : Reduced) (v : Summed) → HasSize columns height b → HasLengths columns height v → HasLengths columns height (added_at_pivot b v)
lengths_step columns height b v size lengths =
    stepping (HasLengths columns height) b v lengths
    (λ e. (length-xor v.row b.row.bits (size.0 ∙ sym lengths.0) ∙ lengths.0, length-xor v.from b.from.bits (size.1 ∙ sym lengths.1) ∙ lengths.1))

pub lengths_reduced : (columns height : ℕ) (basis : List Reduced) (v : Summed) → HasSizes columns height basis → HasLengths columns height v → HasLengths columns height (reduced basis v)
lengths_reduced columns height [] v sizes lengths = lengths
lengths_reduced columns height (b ∷ basis) v sizes lengths = lengths_reduced columns height basis (added_at_pivot b v) sizes.1 (lengths_step columns height b v sizes.0 lengths)

-- ---- no pivot is set

unset_reduced : (basis : List Reduced) (v : Summed) (place : ℕ) → AllByRecursion (λ c. bit c.row.bits place ≡ false) basis → bit v.row place ≡ false → bit (reduced basis v).row place ≡ false
unset_reduced [] v place none unset = unset
unset_reduced (b ∷ basis) v place none unset =
    unset_reduced basis (added_at_pivot b v) place none.1
    (stepping (λ w. bit w.row place ≡ false) b v unset (λ e. bit-xor v.row b.row.bits place ∙ ap₂ xor unset none.0))

pub pivots_unset : (basis : List Reduced) (v : Summed) → IsEchelon basis → AllByRecursion (λ c. bit (reduced basis v).row c.pivot ≡ false) basis
pivots_unset [] v echelon = tt
pivots_unset (b ∷ basis) v echelon = (
  unset_reduced basis (added_at_pivot b v) b.pivot echelon.1
      (cond_both (bit v.row b.pivot) _ v (λ w. bit w.row b.pivot ≡ false) (λ e. bit-xor v.row b.row.bits b.pivot ∙ ap₂ xor e echelon.0) (λ e. e)),
  pivots_unset basis (added_at_pivot b v) echelon.2,
)

-- ---- what is the same

pub even_reduced : (basis : List Reduced) (v : Summed) (y : List Bool) → IsEvenWith y basis → parity_of (reduced basis v).row y ≡ parity_of v.row y
even_reduced [] v y even = refl
even_reduced (b ∷ basis) v y even =
    even_reduced basis (added_at_pivot b v) y even.1
    ∙ stepping (λ w. parity_of w.row y ≡ parity_of v.row y) b v refl (λ e. parity_of-xor v.row b.row.bits y ∙ ap (xor (parity_of v.row y)) even.0 ∙ xor-false _)

pub sum_reduced : (columns : ℕ) (rows : List (List Bool)) (basis : List Reduced) (v : Summed) → AreRows columns rows → HasSizes columns (length rows) basis →
    HasLengths columns (length rows) v → AllByRecursion (λ b. sum_of_rows columns rows b.from.bits ≡ b.row.bits) basis →
    xor_lists (reduced basis v).row (sum_of_rows columns rows (reduced basis v).from) ≡ xor_lists v.row (sum_of_rows columns rows v.from)
sum_reduced columns rows [] v each sizes lengths sums = refl
sum_reduced columns rows (b ∷ basis) v each sizes lengths sums =
    sum_reduced columns rows basis (added_at_pivot b v) each sizes.1 (lengths_step columns (length rows) b v sizes.0 lengths) sums.1
    ∙ stepping (λ w. xor_lists w.row (sum_of_rows columns rows w.from) ≡ xor_lists v.row (sum_of_rows columns rows v.from)) b v refl
    (λ e. ap (xor_lists (xor_lists v.row b.row.bits)) (sum_of-xor columns rows v.from b.from.bits each lengths.1 sizes.0.1 ∙ ap (xor_lists (sum_of_rows columns rows v.from)) sums.0)
    ∙ twice v.row (sum_of_rows columns rows v.from) b.row.bits lengths.0 (length-sum_of_rows columns rows v.from each) sizes.0.0)
  where
    twice : (r s t : List Bool) → length r ≡ columns → length s ≡ columns → length t ≡ columns → xor_lists (xor_lists r t) (xor_lists s t) ≡ xor_lists r s
    twice r s t p q o =
        interchange r t s t ∙ ap (xor_lists (xor_lists r s)) (xor_lists-same t columns o) ∙ xor_lists-zeros (xor_lists r s) columns (length-xor r s (q ∙ sym p) ∙ p)

pub either_set : (a b : Bool) → xor a b ≡ true → (a ≡ true) ⊎ (b ≡ true)
either_set true b e = inl refl
either_set false b e = inr e

-- what holds of each row that the basis is summed up of
pub from_reduced : (P : ℕ → Type 0) (basis : List Reduced) (v : Summed) → AllByRecursion (λ b. (r : ℕ) → bit b.from.bits r ≡ true → P r) basis →
    ((r : ℕ) → bit v.from r ≡ true → P r) → (r : ℕ) → bit (reduced basis v).from r ≡ true → P r
from_reduced P [] v all first = first
from_reduced P (b ∷ basis) v all first =
    from_reduced P basis (added_at_pivot b v) all.1
    (stepping (λ w. (r : ℕ) → bit w.from r ≡ true → P r) b v first
    (λ e r set. elim (either_set (bit v.from r) (bit b.from.bits r) (sym (bit-xor v.from b.from.bits r) ∙ set)) [
      | inl l ↦ first r l
      | inr g ↦ all.0 r g
    ]))

-- ---- the dual

length-evened : (b : Reduced) (y : List Bool) → length (evened b y) ≡ length y
length-evened b y = cond_both (parity_of b.row.bits y) _ y (λ z. length z ≡ length y) (λ e. length-flipped y b.pivot) (λ e. refl)

pub length-dual : (basis : List Reduced) (start : List Bool) → length (dual_of basis start) ≡ length start
length-dual [] start = refl
length-dual (b ∷ basis) start = length-evened b (dual_of basis start) ∙ length-dual basis start

-- a row without the pivot doesn't see it
evened-other : (b : Reduced) (y row : List Bool) → length row ≡ length y → b.pivot < length y → bit row b.pivot ≡ false → parity_of row (evened b y) ≡ parity_of row y
evened-other b y row size lt unset =
    cond_both (parity_of b.row.bits y) _ y (λ z. parity_of row z ≡ parity_of row y)
    (λ e. parity_of-flipped row y b.pivot size lt ∙ ap (xor (parity_of row y)) unset ∙ xor-false _) (λ e. refl)

evened-own : (b : Reduced) (y : List Bool) → length b.row.bits ≡ length y → b.pivot < length y → bit b.row.bits b.pivot ≡ true → parity_of b.row.bits (evened b y) ≡ false
evened-own b y size lt set =
    cond_both (parity_of b.row.bits y) _ y (λ z. parity_of b.row.bits z ≡ false)
    (λ e. parity_of-flipped b.row.bits y b.pivot size lt ∙ ap₂ xor e set) (λ e. e)

evened_all : (columns height : ℕ) (b : Reduced) (y : List Bool) (basis : List Reduced) → length y ≡ columns → b.pivot < columns → HasSizes columns height basis →
    AllByRecursion (λ c. bit c.row.bits b.pivot ≡ false) basis → IsEvenWith y basis → IsEvenWith (evened b y) basis
evened_all columns height b y [] size lt sizes none even = tt
evened_all columns height b y (c ∷ basis) size lt sizes none even = (
  evened-other b y c.row.bits (sizes.0.0 ∙ sym size) (omega arith) none.0 ∙ even.0,
  evened_all columns height b y basis size lt sizes.1 none.1 even.1,
)

pub dual_even : (columns height : ℕ) (basis : List Reduced) (start : List Bool) → length start ≡ columns → HasSizes columns height basis → IsEchelon basis → IsEvenWith (dual_of basis start) basis
dual_even columns height [] start size sizes echelon = tt
dual_even columns height (b ∷ basis) start size sizes echelon =
    let y = dual_of basis start in
    let fits : length y ≡ columns = length-dual basis start ∙ size in
    let within : b.pivot < columns = sizes.0.2 in (
      evened-own b y (sizes.0.0 ∙ sym fits) (omega arith) echelon.0,
      evened_all columns height b y basis fits within sizes.1 echelon.1 (dual_even columns height basis start size sizes.1 echelon.2),
    )

pub dual_odd : (columns height : ℕ) (basis : List Reduced) (start row : List Bool) → length start ≡ columns → length row ≡ columns → HasSizes columns height basis →
    AllByRecursion (λ c. bit row c.pivot ≡ false) basis → parity_of row (dual_of basis start) ≡ parity_of row start
dual_odd columns height [] start row size fits sizes none = refl
dual_odd columns height (b ∷ basis) start row size fits sizes none =
    let y = dual_of basis start in
    let same : length y ≡ columns = length-dual basis start ∙ size in
    let within : b.pivot < columns = sizes.0.2 in
    evened-other b y row (fits ∙ sym same) (omega arith) none.0 ∙ dual_odd columns height basis start row size fits sizes.1 none.1

-- ---- one of the basis after the other

pub reduce_more : (columns height : ℕ) (basis : List Reduced) (i : ℕ) (b : Reduced) (old new : Summed) → i < length basis → b ≡ get_or basis i b →
    HasSizes columns height (drop i basis) → HasLengths columns height old → new ≡ added_at_pivot b old →
    HasSizes columns height (drop (i + 1) basis) × HasLengths columns height new × (reduced (drop (i + 1) basis) new ≡ reduced (drop i basis) old)
reduce_more columns height basis i b old new lt read sizes lengths stepped =
    let is : drop i basis ≡ b ∷ drop (i + 1) basis = drop_more basis i b lt ∙ ap (λ c. c ∷ drop (i + 1) basis) (sym read) in
    let all : HasSizes columns height (b ∷ drop (i + 1) basis) = subst (HasSizes columns height) is sizes in (
      all.1,
      subst (HasLengths columns height) (sym stepped) (lengths_step columns height b old all.0 lengths),
      ap (reduced (drop (i + 1) basis)) stepped ∙ sym (ap (λ l. reduced l old) is),
    )

pub size_at : (columns height : ℕ) (basis : List Reduced) (i : ℕ) (b : Reduced) → i < length basis → b ≡ get_or basis i b → HasSizes columns height basis → HasSize columns height b
size_at columns height basis i b lt read sizes =
    subst (HasSize columns height) (sym read) (at basis i lt sizes)
  where
    at : (basis : List Reduced) (i : ℕ) → i < length basis → HasSizes columns height basis → HasSize columns height (get_or basis i b)
    at [] i lt sizes = absurd (omega arith)
    at (c ∷ basis) zero lt sizes = sizes.0
    at (c ∷ basis) (suc i) lt sizes = at basis i (omega arith) sizes.1

pub dual_more : (basis : List Reduced) (i : ℕ) (b : Reduced) (start : List Bool) → i < length basis → b ≡ get_or basis i b →
    evened b (dual_of (drop (i + 1) basis) start) ≡ dual_of (drop i basis) start
dual_more basis i b start lt read = sym (ap (λ l. dual_of l start) (drop_more basis i b lt ∙ ap (λ c. c ∷ drop (i + 1) basis) (sym read)))

pub sizes_along : {columns height columns' height' : ℕ} {basis basis' : List Reduced} → columns ≡ columns' → height ≡ height' → basis ≡ basis' → HasSizes columns height basis → HasSizes columns' height' basis'
sizes_along {columns} {height} {columns'} {height'} {basis} {basis'} c h b sizes =
    subst (HasSizes columns' height') b (subst (λ (n : ℕ). HasSizes n height' basis) c (subst (λ (n : ℕ). HasSizes columns n basis) h sizes))

pub reduced_along : {basis' basis : List Reduced} {row' from' row from : List Bool} {new : Summed} → basis' ≡ basis → row' ≡ row → from' ≡ from →
    new ≡ reduced basis' (record { row = row'; from = from' }) → new ≡ reduced basis (record { row = row; from = from })
reduced_along b r f e =
    let made : List Bool → List Bool → Summed = λ row from. record { row = row; from = from } in
    e ∙ ap₂ reduced b (ap₂ made r f)
