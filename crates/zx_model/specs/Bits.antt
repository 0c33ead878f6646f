-- Bits and lists of bits.
use Rattle.std.specs.Prelude.{ℕ, Bool, true, false, not, ◌||◌, ◌==◌, if◌then◌else◌, List, [], ◌∷◌, get_or}

-- the sum of two bits modulo 2
abbrev pub xor : Bool → Bool → Bool
xor true b = not b
xor false b = b

-- 1 for a bit that is set, and 0 for one that isn't
abbrev pub one_if : Bool → ℕ
one_if b = if b then 1 else 0

-- whether a number stands in a list
abbrev pub member : ℕ → List ℕ → Bool
member x [] = false
member x (y ∷ ys) = (x == y) || member x ys

-- the bit at a place
abbrev pub bit : List Bool → ℕ → Bool
bit bits place = get_or bits place false
