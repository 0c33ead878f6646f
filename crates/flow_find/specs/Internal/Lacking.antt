-- What the rows of an elimination lack while one of them is replaced.
use Rattle.std.specs.Prelude.{◌≡◌, ℕ, Bool, true, ◌&&◌, List}
use Rattle.zx_model.specs.Bits.{xor, member}
use Rattle.gflow_laws.specs.Seen.{Seen}
use Rattle.flow_find.specs.declared.row.Row.{Row}
use Rattle.flow_find.specs.Frontiers.{combined}

-- what the rows lack of the neighbours of any vertex is a multiple of one row
pub record IsShort (s : Seen) (left may : ℕ → Bool) (rows : List Row) (columns : List ℕ) : Type 0 where
  pub times : ℕ → Bool
  pub lacks : (u w : ℕ) → may u ≡ true → left w ≡ true →
      xor (s.adjacent u w) (combined (s.adjacent u) rows w) ≡ (times u && member w columns)
