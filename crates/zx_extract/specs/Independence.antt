-- What the law of independent rows speaks of: sets of outputs, and their rows over the other vertices.
use Rattle.std.specs.Prelude.{◌≡◌, ℕ, Bool, true, false}
use Rattle.zx_model.specs.Bits.{member}
use Rattle.zx_calculus.specs.Graph.{Graph, IsVertex, end_vertices}
use Rattle.gflow_laws.specs.Seen.{seen, in_odd_neighbourhood}

-- each of the set is an output that is no input
abbrev pub HasOutputsAlone : Graph → (ℕ → Bool) → Type 0
HasOutputsAlone g set =
    (w : ℕ) → set w ≡ true → (member w (end_vertices g.outputs) ≡ true) × (member w (end_vertices g.inputs) ≡ false)

-- the rows of the set sum to zero: each vertex that is no output has an even number of neighbours in it
abbrev pub SumsToZero : Graph → (ℕ → Bool) → Type 0
SumsToZero g set =
    (v : ℕ) → IsVertex g v → member v (end_vertices g.outputs) ≡ false → in_odd_neighbourhood (seen g) set v ≡ false
