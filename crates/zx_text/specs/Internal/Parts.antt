-- What the reader keeps of a graph and of sets.
use Rattle.std.specs.Prelude.{◌≡◌, ℕ, true, List, [], ◌∷◌, ◌++◌, length, Option, None, Some}
use Rattle.std.specs.List.{range_with_len}
use Rattle.zx_model.specs.Bits.{member}
use Rattle.zx_calculus.specs.Graph.{Graph, Edge, WellFormed, ids}
use Rattle.gflow_laws.specs.Flow.{Correction, order_of}
use Rattle.zx_text.specs.declared.graph_part.Section.{Section}
use Rattle.zx_text.specs.declared.graph_part.Section.TheVariants.{Vertices, Edges, Inputs, Outputs}

abbrev pub rank_of : Section → ℕ
rank_of Vertices = 0
rank_of Edges = 1
rank_of Inputs = 2
rank_of Outputs = 3

-- the ids are 0, 1, 2 and so on, so many
pub record IsNumbered (g : Graph) (vertices : ℕ) : Type 0 where
  pub valid : WellFormed g
  pub count : vertices ≡ length g.vertices
  pub ids : ids g.vertices ≡ range_with_len 0 (length g.vertices)

pub record IsLast (edges : List Edge) (e : ℕ × ℕ) : Type 0 where
  pub before : List Edge
  pub all : edges ≡ before ++ record { lower = e.0; higher = e.1 } ∷ []

-- which edge is the last one
abbrev pub IsLastOf : List Edge → Option (ℕ × ℕ) → Type 0
IsLastOf edges None = edges ≡ []
IsLastOf edges (Some e) = IsLast edges e

abbrev pub AreInTable : List Correction → List ℕ → Type 0
AreInTable table vs = (v : ℕ) → member v vs ≡ true → member v (order_of table) ≡ true
