-- The first elements of a list, changed.
use Rattle.std.proofs.Common.{◌≡◌, ℕ, zero, suc, ◌<◌, ◌≤◌, List, [], ◌∷◌, length, map, get_or, set, refl, ap, arith}

abbrev pub upto : {X : Type 0} → (X → X) → ℕ → List X → List X
upto f zero xs = xs
upto f (suc k) [] = []
upto f (suc k) (x ∷ xs) = f x ∷ upto f k xs

pub upto-more : {X : Type 0} (f : X → X) (k : ℕ) (xs : List X) (d : X) → k < length xs → set (upto f k xs) k (f (get_or (upto f k xs) k d)) ≡ upto f (suc k) xs
upto-more f zero [] d below = absurd (omega arith)
upto-more f zero (x ∷ xs) d below = refl
upto-more f (suc k) [] d below = absurd (omega arith)
upto-more f (suc k) (x ∷ xs) d below = ap (λ ys. f x ∷ ys) (upto-more f k xs d (omega arith))

pub upto-all : {X : Type 0} (f : X → X) (k : ℕ) (xs : List X) → length xs ≤ k → upto f k xs ≡ map f xs
upto-all f zero [] all = refl
upto-all f zero (x ∷ xs) all = absurd (omega arith)
upto-all f (suc k) [] all = refl
upto-all f (suc k) (x ∷ xs) all = ap (λ ys. f x ∷ ys) (upto-all f k xs (omega arith))
