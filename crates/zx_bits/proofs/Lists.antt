-- Lists of bits as functions of the place.
use Rattle.std.proofs.Common.{◌≡◌, refl, sym, ◌∙◌, ap, ap₂, ℕ, zero, suc, ◌+◌, ◌<◌, ◌≤◌, Bool, true, false, ◌&&◌, eqb, List, [], ◌∷◌, ◌++◌, length, replicate, ne_eqb, arith}
use Rattle.std.proofs.Math.Dec.{eqb-suc-suc}
use Rattle.zx_model.specs.Bits.{xor, bit}
use Rattle.zx_bits.specs.Rows.{flipped, xor_lists, parity_of}
use Rattle.zx_bits.specs.Internal.Words.{tabulated, how_many, is_odd}
use Rattle.zx_model.proofs.BitLemmas.{xor-false, xor_comm}
use Rattle.zx_bits.proofs.Sums.{is_odd-suc}

pub length-tabulated : (n : ℕ) (f : ℕ → Bool) → length (tabulated n f) ≡ n
length-tabulated zero f = refl
length-tabulated (suc n) f = ap suc (length-tabulated n _)

pub tabulated-same : (n : ℕ) (f g : ℕ → Bool) → ((k : ℕ) → k < n → f k ≡ g k) → tabulated n f ≡ tabulated n g
tabulated-same zero f g same = refl
tabulated-same (suc n) f g same = ap₂ (λ b bs. b ∷ bs) (same 0 (omega arith)) (tabulated-same n _ _ (λ k lt. same (suc k) (omega arith)))

pub bit-tabulated : (n : ℕ) (f : ℕ → Bool) (k : ℕ) → k < n → bit (tabulated n f) k ≡ f k
bit-tabulated zero f k lt = absurd (omega arith)
bit-tabulated (suc n) f zero lt = refl
bit-tabulated (suc n) f (suc k) lt = bit-tabulated n _ k (omega arith)

pub bit-past : (xs : List Bool) (k : ℕ) → length xs ≤ k → bit xs k ≡ false
bit-past [] k le = refl
bit-past (x ∷ xs) zero le = absurd (omega arith)
bit-past (x ∷ xs) (suc k) le = bit-past xs k (omega arith)

pub tabulated-bits : (xs : List Bool) (n : ℕ) → length xs ≡ n → tabulated n (bit xs) ≡ xs
tabulated-bits [] zero e = refl
tabulated-bits [] (suc n) e = absurd (omega arith)
tabulated-bits (x ∷ xs) zero e = absurd (omega arith)
tabulated-bits (x ∷ xs) (suc n) e = ap (λ bs. x ∷ bs) (tabulated-bits xs n (omega arith))

pub flipped-tabulated : (n : ℕ) (f : ℕ → Bool) (place : ℕ) → flipped (tabulated n f) place ≡ tabulated n (λ k. xor (f k) (eqb k place))
flipped-tabulated zero f place = refl
flipped-tabulated (suc n) f zero =
    ap₂ (λ b bs. b ∷ bs) (xor_comm true (f 0)) (tabulated-same n _ _ (λ k lt. sym (ap (xor (f (suc k))) (ne_eqb (suc k) 0 (λ e. omega arith)) ∙ xor-false _)))
flipped-tabulated (suc n) f (suc place) =
    ap₂ (λ b bs. b ∷ bs) (sym (ap (xor (f 0)) (ne_eqb 0 (suc place) (λ e. omega arith)) ∙ xor-false _))
    (flipped-tabulated n _ place ∙ tabulated-same n _ _ (λ k lt. ap (xor (f (suc k))) (sym (eqb-suc-suc k place))))

pub xor_lists-tabulated : (n : ℕ) (f g : ℕ → Bool) → xor_lists (tabulated n f) (tabulated n g) ≡ tabulated n (λ k. xor (f k) (g k))
xor_lists-tabulated zero f g = refl
xor_lists-tabulated (suc n) f g = ap (λ bs. xor (f 0) (g 0) ∷ bs) (xor_lists-tabulated n _ _)

pub parity_of-tabulated : (n : ℕ) (f g : ℕ → Bool) → parity_of (tabulated n f) (tabulated n g) ≡ is_odd n (λ k. f k && g k)
unfolding how_many
parity_of-tabulated zero f g = refl
parity_of-tabulated (suc n) f g = ap (xor (f 0 && g 0)) (parity_of-tabulated n _ _) ∙ sym (is_odd-suc n (λ k. f k && g k))

pub tabulated-unset : (n : ℕ) (f : ℕ → Bool) → ((k : ℕ) → f k ≡ false) → tabulated n f ≡ replicate n false
tabulated-unset zero f none = refl
tabulated-unset (suc n) f none = ap₂ (λ b bs. b ∷ bs) (none 0) (tabulated-unset n _ (λ k. none (suc k)))

-- bits past the end that aren't set
pub tabulated-grown : (n more : ℕ) (f : ℕ → Bool) → ((k : ℕ) → n ≤ k → f k ≡ false) → tabulated (n + more) f ≡ tabulated n f ++ replicate more false
tabulated-grown zero more f none = let e : zero + more ≡ more = omega arith in ap (λ j. tabulated j f) e ∙ tabulated-unset more f (λ k. none k (omega arith))
tabulated-grown (suc n) more f none =
    let e : suc n + more ≡ suc (n + more) = omega arith in
    ap (λ j. tabulated j f) e ∙ ap (λ bs. f 0 ∷ bs) (tabulated-grown n more _ (λ k le. none (suc k) (omega arith)))
