-- The parts of which the changes of a graph are made.
use Rattle.std.specs.Prelude.{◌≡◌, ◌≢◌, ℕ, Bool, ◌&&◌, List}
use Rattle.zx_model.specs.Bits.{xor, member}
use Rattle.zx_calculus.specs.Graph.{Graph, joined}
use Rattle.zx_calculus.specs.Edits.{KeepsEnds}

-- h is g, with each edge between two different vertices toggled where the pair is picked
pub record IsToggled (g : Graph) (picked : ℕ → ℕ → Bool) (h : Graph) : Type 0 where
  pub vertices : h.vertices ≡ g.vertices
  pub edges : (p q : ℕ) → p ≢ q → joined h.edges p q ≡ xor (joined g.edges p q) (picked p q)
  pub frame : KeepsEnds g h

-- a pair of listed ones
abbrev pub among : List ℕ → ℕ → ℕ → Bool
among near p q = member p near && member q near

-- a pair of one of xs and one of ys; one that is it either way round counts twice, so isn't picked
abbrev pub across : List ℕ → List ℕ → ℕ → ℕ → Bool
across xs ys p q = xor (member p xs && member q ys) (member q xs && member p ys)
