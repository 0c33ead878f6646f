-- Sums over bits, and over labels of things that numbers name.
use Rattle.std.specs.Prelude.{ℕ, zero as nought, suc, Bool, true, false, if◌then◌else◌, ◌==◌, List, [], ◌∷◌, ◌++◌, map}
use Rattle.zx_model.specs.Number.{Number, zero, add}

-- the sum of a list of numbers
abbrev pub total : List Number → Number
total [] = zero
total (x ∷ xs) = add x (total xs)

-- every list of n bits, each once
abbrev pub all_labels : ℕ → List (List Bool)
all_labels nought = [] ∷ []
all_labels (suc n) = map (λ hs. false ∷ hs) (all_labels n) ++ map (λ hs. true ∷ hs) (all_labels n)

-- the labels with that of v being h
abbrev pub labelled : (ℕ → Bool) → ℕ → Bool → ℕ → Bool
labelled label v h u = if u == v then h else label u

-- f with the label of v summed over both values
abbrev pub over : ℕ → ((ℕ → Bool) → Number) → (ℕ → Bool) → Number
over v f label = add (f (labelled label v false)) (f (labelled label v true))

-- f summed over all labels of the listed ones, the label of any other being false
abbrev pub sum_over : List ℕ → ((ℕ → Bool) → Number) → Number
sum_over [] f = f (λ u. false)
sum_over (v ∷ vs) f = sum_over vs (over v f)

-- the labels that a list of bits gives to a list of names: to each name the bit at its place (of equal names the
-- first decides), and false to any other
abbrev pub label_of : List ℕ → List Bool → ℕ → Bool
label_of [] hs u = false
label_of (v ∷ vs) [] u = false
label_of (v ∷ vs) (h ∷ hs) u = labelled (label_of vs hs) v h u
