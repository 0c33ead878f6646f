-- How many ids are lower, by a search in the rising list.
use Rattle.std.proofs.Common.{◌≡◌, ℕ, ◌<◌, ◌≤◌, Bool, true, false, ltb, List, [], ◌∷◌, length, filter, suc, zero, subst, ltb-true, ltb-false, lt-ltb, arith, slice_index_or}
use Rattle.std.specs.List.{list_all, AllWithin}
use Rattle.std.specs.List.Sorted.{IsPartitionedBy}
use Rattle.zx_calculus.specs.Graph.{in_order}
use Rattle.zx_calculus.proofs.Ids.{and-left, and-right, by_test}

pub number_at : (all : List ℕ) (v i : ℕ) → i ≤ length all → AllWithin (λ y. ltb y v ≡ true) all 0 i
    → AllWithin (λ y. ltb y v ≡ false) all i (length all) → length (filter (λ u. ltb u v) all) ≡ i
number_at [] v i le low high = omega arith
number_at (x ∷ xs) v zero le low high =
    let here : ltb x v ≡ false = high 0 0 (omega arith) (omega arith) in
    rw here (number_at xs v 0 (omega arith) (λ k d a b. absurd (omega arith)) (λ k d a b. high (suc k) d (omega arith) (omega arith)))
number_at (x ∷ xs) v (suc i) le low high =
    let here : ltb x v ≡ true = low 0 0 (omega arith) (omega arith) in
    let others = number_at xs v i (omega arith) (λ k d a b. low (suc k) d (omega arith) (omega arith)) (λ k d a b. high (suc k) d (omega arith) (omega arith)) in
    rw here (omega (arith, others))

all_index : (p : ℕ → Bool) (xs : List ℕ) (j d : ℕ) → list_all p xs ≡ true → j < length xs → p (slice_index_or xs j d) ≡ true
all_index p [] j d h lt = absurd (omega arith)
all_index p (x ∷ xs) zero d h lt = and-left _ _ h
all_index p (x ∷ xs) (suc j) d h lt = all_index p xs j d (and-right _ _ h) (omega arith)

rising_at : (xs : List ℕ) → in_order ltb xs ≡ true → (i j d : ℕ) → i < j → j < length xs → slice_index_or xs i d < slice_index_or xs j d
rising_at [] rising i j d lt within = absurd (omega arith)
rising_at (x ∷ xs) rising i zero d lt within = absurd (omega arith)
rising_at (x ∷ xs) rising zero (suc j) d lt within = ltb-true x (slice_index_or xs j d) (all_index (ltb x) xs j d (and-left _ _ rising) (omega arith))
rising_at (x ∷ xs) rising (suc i) (suc j) d lt within = rising_at xs (and-right _ _ rising) i j d (omega arith) (omega arith)

pub parted : (all : List ℕ) (v : ℕ) → in_order ltb all ≡ true → IsPartitionedBy (λ y. ltb y v) all
parted all v rising i j d le within below =
    by_test (ltb i j)
    (λ t.
    let first = rising_at all rising i j d (ltb-true i j t) within in
    let second = ltb-true (slice_index_or all j d) v below in
    lt-ltb (slice_index_or all i d) v (omega arith))
    (λ f.
    let ge = ltb-false i j f in
    let same : j ≡ i = omega arith in
    subst (λ k. ltb (slice_index_or all k d) v ≡ true) same below)
