-- Lists of bits as vectors: `xor_lists` is their sum, `parity_of` their product.
use Rattle.std.proofs.Common.{◌≡◌, refl, sym, ◌∙◌, ap, ap₂, ℕ, zero, suc, ◌<◌, Bool, true, false, not, ◌&&◌, eqb, List, [], ◌∷◌, length, ne_eqb, arith}
use Rattle.std.proofs.Math.Dec.{eqb-suc-suc}
use Rattle.zx_model.specs.Bits.{xor, bit}
use Rattle.zx_bits.specs.Rows.{flipped, xor_lists, parity_of}
use Rattle.zx_bits.specs.Solving.{zeros}
use Rattle.zx_model.proofs.BitLemmas.{xor-false, xor_comm, xor_assoc, xor-same, xor-and, and-false}
use Rattle.zx_bits.proofs.Sums.{sums}
use Rattle.zx_bits.proofs.Lists.{tabulated-same, tabulated-bits}

-- ---- places

pub length-zeros : (n : ℕ) → length (zeros n) ≡ n
length-zeros zero = refl
length-zeros (suc n) = ap suc (length-zeros n)

pub length-flipped : (xs : List Bool) (place : ℕ) → length (flipped xs place) ≡ length xs
length-flipped [] place = refl
length-flipped (x ∷ xs) zero = refl
length-flipped (x ∷ xs) (suc place) = ap suc (length-flipped xs place)

pub length-xor : (xs ys : List Bool) → length ys ≡ length xs → length (xor_lists xs ys) ≡ length xs
length-xor [] ys e = e
length-xor (x ∷ xs) [] e = refl
length-xor (x ∷ xs) (y ∷ ys) e = ap suc (length-xor xs ys (omega arith))

pub bit-zeros : (n place : ℕ) → bit (zeros n) place ≡ false
bit-zeros zero place = refl
bit-zeros (suc n) zero = refl
bit-zeros (suc n) (suc place) = bit-zeros n place

pub bit-flipped : (xs : List Bool) (place k : ℕ) → place < length xs → bit (flipped xs place) k ≡ xor (bit xs k) (eqb k place)
bit-flipped [] place k lt = absurd (omega arith)
bit-flipped (x ∷ xs) zero zero lt = xor_comm true x
bit-flipped (x ∷ xs) zero (suc k) lt = sym (ap (xor (bit xs k)) (ne_eqb (suc k) 0 (λ e. omega arith)) ∙ xor-false _)
bit-flipped (x ∷ xs) (suc place) zero lt = sym (ap (xor x) (ne_eqb 0 (suc place) (λ e. omega arith)) ∙ xor-false _)
bit-flipped (x ∷ xs) (suc place) (suc k) lt = bit-flipped xs place k (omega arith) ∙ ap (xor (bit xs k)) (sym (eqb-suc-suc k place))

pub bit-xor : (xs ys : List Bool) (k : ℕ) → bit (xor_lists xs ys) k ≡ xor (bit xs k) (bit ys k)
bit-xor [] ys k = refl
bit-xor (x ∷ xs) [] k = sym (xor-false _)
bit-xor (x ∷ xs) (y ∷ ys) zero = refl
bit-xor (x ∷ xs) (y ∷ ys) (suc k) = bit-xor xs ys k

-- lists of one length with the same bits are equal
pub same_bits : (xs ys : List Bool) → length xs ≡ length ys → ((k : ℕ) → bit xs k ≡ bit ys k) → xs ≡ ys
same_bits xs ys size same = sym (tabulated-bits xs (length ys) size) ∙ tabulated-same (length ys) (bit xs) (bit ys) (λ k lt. same k) ∙ tabulated-bits ys (length ys) refl

pub unset_is_zeros : (xs : List Bool) (n : ℕ) → length xs ≡ n → ((k : ℕ) → bit xs k ≡ false) → xs ≡ zeros n
unset_is_zeros xs n size none = same_bits xs (zeros n) (size ∙ sym (length-zeros n)) (λ k. none k ∙ sym (bit-zeros n k))

-- ---- sums

pub xor_lists-nil : (xs : List Bool) → xor_lists xs [] ≡ xs
xor_lists-nil [] = refl
xor_lists-nil (x ∷ xs) = refl

pub xor_lists_comm : (xs ys : List Bool) → xor_lists xs ys ≡ xor_lists ys xs
xor_lists_comm [] ys = sym (xor_lists-nil ys)
xor_lists_comm (x ∷ xs) [] = refl
xor_lists_comm (x ∷ xs) (y ∷ ys) = ap₂ (λ b bs. b ∷ bs) (xor_comm x y) (xor_lists_comm xs ys)

pub xor_lists_assoc : (xs ys zs : List Bool) → xor_lists (xor_lists xs ys) zs ≡ xor_lists xs (xor_lists ys zs)
xor_lists_assoc [] ys zs = refl
xor_lists_assoc (x ∷ xs) [] zs = refl
xor_lists_assoc (x ∷ xs) (y ∷ ys) [] = refl
xor_lists_assoc (x ∷ xs) (y ∷ ys) (z ∷ zs) = ap₂ (λ b bs. b ∷ bs) (xor_assoc x y z) (xor_lists_assoc xs ys zs)

pub xor_lists_left_comm : (xs ys zs : List Bool) → xor_lists xs (xor_lists ys zs) ≡ xor_lists ys (xor_lists xs zs)
xor_lists_left_comm xs ys zs = sym (xor_lists_assoc xs ys zs) ∙ ap (λ l. xor_lists l zs) (xor_lists_comm xs ys) ∙ xor_lists_assoc ys xs zs

-- sums of lists, sorted
pub ruleset sorted_sums = (xor_lists_comm, xor_lists_assoc, xor_lists_left_comm)

pub interchange : (a b c d : List Bool) → xor_lists (xor_lists a b) (xor_lists c d) ≡ xor_lists (xor_lists a c) (xor_lists b d)
interchange a b c d = simp sorted_sums

pub xor_lists-same : (xs : List Bool) (n : ℕ) → length xs ≡ n → xor_lists xs xs ≡ zeros n
xor_lists-same xs n size = unset_is_zeros (xor_lists xs xs) n (length-xor xs xs refl ∙ size) (λ k. bit-xor xs xs k ∙ xor-same (bit xs k))

pub xor_lists-zeros : (xs : List Bool) (n : ℕ) → length xs ≡ n → xor_lists xs (zeros n) ≡ xs
xor_lists-zeros xs n size =
    same_bits _ xs (length-xor xs (zeros n) (length-zeros n ∙ sym size)) (λ k. bit-xor xs (zeros n) k ∙ ap (xor (bit xs k)) (bit-zeros n k) ∙ xor-false _)

-- two lists whose sum has no bit set are equal
pub same_from_sum : (xs ys : List Bool) → length xs ≡ length ys → ((k : ℕ) → bit (xor_lists xs ys) k ≡ false) → xs ≡ ys
same_from_sum xs ys size none = same_bits xs ys size (λ k. equal (bit xs k) (bit ys k) (sym (bit-xor xs ys k) ∙ none k))
  where
    equal : (a b : Bool) → xor a b ≡ false → a ≡ b
    equal true true e = refl
    equal true false e = e
    equal false b e = sym e

-- ---- products

pub parity_of-zeros : (n : ℕ) (y : List Bool) → parity_of (zeros n) y ≡ false
parity_of-zeros zero y = refl
parity_of-zeros (suc n) [] = refl
parity_of-zeros (suc n) (b ∷ y) = parity_of-zeros n y

pub parity_of-with_zeros : (xs : List Bool) (n : ℕ) → parity_of xs (zeros n) ≡ false
parity_of-with_zeros [] n = refl
parity_of-with_zeros (x ∷ xs) zero = refl
parity_of-with_zeros (x ∷ xs) (suc n) = ap₂ xor (and-false x) (parity_of-with_zeros xs n)

pub parity_of-xor : (xs ys z : List Bool) → parity_of (xor_lists xs ys) z ≡ xor (parity_of xs z) (parity_of ys z)
parity_of-xor [] ys z = refl
parity_of-xor (x ∷ xs) [] z = sym (xor-false _)
parity_of-xor (x ∷ xs) (y ∷ ys) [] = refl
parity_of-xor (x ∷ xs) (y ∷ ys) (b ∷ z) = ap₂ xor (xor-and x y b) (parity_of-xor xs ys z) ∙ simp sums

pub parity_of-flipped : (xs y : List Bool) (place : ℕ) → length xs ≡ length y → place < length y → parity_of xs (flipped y place) ≡ xor (parity_of xs y) (bit xs place)
parity_of-flipped [] y place size lt = absurd (omega arith)
parity_of-flipped (x ∷ xs) [] place size lt = absurd (omega arith)
parity_of-flipped (x ∷ xs) (b ∷ y) zero size lt = here x b (parity_of xs y)
  where
    here : (x b p : Bool) → xor (x && not b) p ≡ xor (xor (x && b) p) x
    here true true true = refl
    here true true false = refl
    here true false true = refl
    here true false false = refl
    here false b p = sym (xor-false p)
parity_of-flipped (x ∷ xs) (b ∷ y) (suc place) size lt =
    ap (xor (x && b)) (parity_of-flipped xs y place (omega arith) (omega arith)) ∙ sym (xor_assoc (x && b) (parity_of xs y) (bit xs place))

-- what flipping one place of no bits has in common
pub parity_of-one : (xs : List Bool) (n place : ℕ) → length xs ≡ n → place < n → parity_of xs (flipped (zeros n) place) ≡ bit xs place
parity_of-one xs n place size lt =
    parity_of-flipped xs (zeros n) place (size ∙ sym (length-zeros n)) (omega (arith, length-zeros n))
    ∙ ap (λ p. xor p (bit xs place)) (parity_of-with_zeros xs n)

pub place_within : (xs : List Bool) (place : ℕ) → bit xs place ≡ true → place < length xs
place_within [] place e = cc
place_within (x ∷ xs) zero e = omega arith
place_within (x ∷ xs) (suc place) e = omega (arith, place_within xs place e)
