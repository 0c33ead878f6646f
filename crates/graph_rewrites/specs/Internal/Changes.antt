-- The parts of which a pivot of a graph is made.
use Rattle.std.specs.Prelude.{◌≡◌, ◌≢◌, ℕ, Bool, true, if◌then◌else◌, ◌&&◌, List}
use Rattle.zx_model.specs.Bits.{xor, member}
use Rattle.zx_calculus.specs.Graph.{Kind, Graph, joined}
use Rattle.zx_calculus.specs.Edits.{KeepsEnds}
use Rattle.zx_calculus.specs.Turns.{half_turned}

-- those of the listed vertices that are picked turn by a half
abbrev pub half_turned_in : List ℕ → (ℕ → Bool) → ℕ → Kind → Kind
half_turned_in near picked p kind = if member p near && picked p then half_turned kind else kind

-- h is g with the edges after a pivot of u and v
pub record IsRewired (g : Graph) (u v : ℕ) (h : Graph) : Type 0 where
  pub vertices : h.vertices ≡ g.vertices
  pub still_adjacent : joined h.edges u v ≡ true
  pub of_u : (p : ℕ) → p ≢ u → p ≢ v → joined h.edges u p ≡ joined g.edges v p
  pub of_v : (p : ℕ) → p ≢ u → p ≢ v → joined h.edges v p ≡ joined g.edges u p
  pub between : (p q : ℕ) → p ≢ u → p ≢ v → q ≢ u → q ≢ v → p ≢ q →
      joined h.edges p q ≡ xor (joined g.edges p q)
      (xor (joined g.edges u p && joined g.edges v q) (joined g.edges v p && joined g.edges u q))
  pub frame : KeepsEnds g h
