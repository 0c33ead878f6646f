-- How many of the first places are set.
use Rattle.std.proofs.Common.{◌≡◌, refl, sym, ◌∙◌, ap, ap₂, ℕ, zero, suc, ◌+◌, ◌-◌, ◌<◌, ◌≤◌, Bool, true, false, arith}
use Rattle.zx_model.specs.Bits.{one_if}
use Rattle.zx_bits.specs.Internal.Words.{how_many}

pub many-same : (n : ℕ) (f g : ℕ → Bool) → ((k : ℕ) → k < n → f k ≡ g k) → how_many n f ≡ how_many n g
unfolding how_many
many-same zero f g same = refl
many-same (suc n) f g same = ap₂ (λ b m. one_if b + m) (same 0 (omega arith)) (many-same n _ _ (λ k lt. same (suc k) (omega arith)))

pub many-none : (n : ℕ) (f : ℕ → Bool) → ((k : ℕ) → k < n → f k ≡ false) → how_many n f ≡ 0
unfolding how_many
many-none zero f none = refl
many-none (suc n) f none = ap₂ (λ b m. one_if b + m) (none 0 (omega arith)) (many-none n _ (λ k lt. none (suc k) (omega arith)))

pub many-add : (m n : ℕ) (f : ℕ → Bool) → how_many (m + n) f ≡ how_many m f + how_many n (λ k. f (m + k))
unfolding how_many
many-add zero n f =
    let e : zero + n ≡ n = omega arith in
    let rest = many-same n f (λ k. f (zero + k)) (λ k lt. let h : k ≡ zero + k = omega arith in ap f h) in
    ap (λ j. how_many j f) e ∙ omega (arith, rest)
many-add (suc m) n f =
    let e : suc m + n ≡ suc (m + n) = omega arith in
    let rest = many-same n (λ k. f (suc (m + k))) (λ k. f (suc m + k)) (λ k lt. let h : suc (m + k) ≡ suc m + k = omega arith in ap f h) in
    ap (λ j. how_many j f) e ∙ omega (arith, many-add m n (λ k. f (suc k)), rest)

pub one_if-le : (b : Bool) → one_if b ≤ 1
one_if-le true = omega arith
one_if-le false = omega arith

pub many-le : (n : ℕ) (f : ℕ → Bool) → how_many n f ≤ n
unfolding how_many
many-le zero f = omega arith
many-le (suc n) f = omega (arith, one_if-le (f 0), many-le n (λ k. f (suc k)))

-- places where nothing is set don't count
pub many-beyond : (m n : ℕ) (f : ℕ → Bool) → n ≤ m → ((k : ℕ) → n ≤ k → f k ≡ false) → how_many m f ≡ how_many n f
many-beyond m n f le none =
    let e : m ≡ n + (m - n) = omega arith in
    ap (λ j. how_many j f) e ∙ omega (arith, many-add n (m - n) f, many-none (m - n) (λ k. f (n + k)) (λ k lt. none (n + k) (omega arith)))

-- where nothing is set from either of two places on, as many are set below one as below the other
pub many-either : (m n : ℕ) (f : ℕ → Bool) → ((k : ℕ) → m ≤ k → f k ≡ false) → ((k : ℕ) → n ≤ k → f k ≡ false) → how_many m f ≡ how_many n f
many-either m n f none_m none_n = sym (many-beyond (m + n) m f (omega arith) none_m) ∙ many-beyond (m + n) n f (omega arith) none_n
