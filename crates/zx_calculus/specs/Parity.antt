-- Parities of labels, and of the edges between labelled vertices.
use Rattle.std.specs.Prelude.{ℕ, Bool, false, ◌&&◌, List, [], ◌∷◌}
use Rattle.zx_model.specs.Bits.{xor}

-- the parity of the labels of those listed that `near` picks
abbrev pub masked : (ℕ → Bool) → List ℕ → (ℕ → Bool) → Bool
masked near [] label = false
masked near (v ∷ vs) label = xor (near v && label v) (masked near vs label)
