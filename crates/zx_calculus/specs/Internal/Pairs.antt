-- Pairs of labels in a sum.
use Rattle.std.specs.Prelude.{ℕ, Bool, false, ◌&&◌, List, [], ◌∷◌}
use Rattle.zx_model.specs.Bits.{xor}
use Rattle.zx_calculus.specs.Parity.{masked}

-- the parity of the adjacent pairs of listed ones with both labels 1
abbrev pub quad : (ℕ → ℕ → Bool) → List ℕ → (ℕ → Bool) → Bool
quad adjacent [] label = false
quad adjacent (v ∷ vs) label = xor (label v && masked (adjacent v) vs label) (quad adjacent vs label)
