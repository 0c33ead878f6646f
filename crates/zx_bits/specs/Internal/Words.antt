-- Bits of words, and lists of bits that a function tells.
use Rattle.std.specs.Prelude.{ℕ, zero, suc, ◌+◌, ◌%◌, Bool, ◌==◌, List, [], ◌∷◌}
use Rattle.std.specs.Int.{bit_at}
use Rattle.zx_model.specs.Bits.{one_if}

-- whether the bit of a number at a place is set
abbrev pub digit : ℕ → ℕ → Bool
digit number place = bit_at number place == 1

-- the list of so many bits that a function tells
abbrev pub tabulated : ℕ → (ℕ → Bool) → List Bool
tabulated zero is_set = []
tabulated (suc n) is_set = is_set 0 ∷ tabulated n (λ place. is_set (suc place))

-- how many of the first n places are set
unfoldable pub how_many : ℕ → (ℕ → Bool) → ℕ
how_many zero is_set = 0
how_many (suc n) is_set = one_if (is_set 0) + how_many n (λ place. is_set (suc place))

-- whether an odd number of them is
abbrev pub is_odd : ℕ → (ℕ → Bool) → Bool
is_odd n is_set = how_many n is_set % 2 == 1
