-- What contracts see of a set of vertices in memory.
use Rattle.std.specs.Prelude.{ℕ, List}

-- its ids by rising number, and a bound below which any id can be put in without memory
pub record VertexSet : Type 0 where
  pub ids : List ℕ
  pub room : ℕ
