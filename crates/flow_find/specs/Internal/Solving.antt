-- Whether the rows give a set of a vertex.
use Rattle.std.specs.Prelude.{◌≡◌, ℕ, Bool, true, false, ◌&&◌, List}
use Rattle.zx_model.specs.Bits.{xor, member}
use Rattle.gflow_laws.specs.Seen.{Seen}
use Rattle.flow_find.specs.declared.row.Row.{Row}
use Rattle.flow_find.specs.declared.search.Correctable.{Correctable}
use Rattle.flow_find.specs.Frontiers.{combined, target_of, set_from}

-- what the rows lack of what the set of v has to add up to, on the vertices left
abbrev pub lacking : Seen → (ℕ → Bool) → List Row → ℕ → ℕ → Bool
lacking s left rows v w = xor (left w && target_of s v w) (combined (target_of s v) rows w)

-- they lack nothing, and these are the members
pub record IsSolution (s : Seen) (left : ℕ → Bool) (rows : List Row) (v : ℕ) (set : List ℕ) : Type 0 where
  pub whole : (w : ℕ) → lacking s left rows v w ≡ false
  pub members : (w : ℕ) → member w set ≡ set_from s rows v w

-- they lack a column
pub record IsMissed (s : Seen) (left : ℕ → Bool) (rows : List Row) (v : ℕ) : Type 0 where
  pub column : ℕ
  pub lacked : lacking s left rows v column ≡ true

-- w is left, and belongs to what the set of v has to add up to
abbrev pub IsNeeded : Seen → (ℕ → Bool) → ℕ → ℕ → Type 0
IsNeeded s left v w = (left w && target_of s v w) ≡ true

-- a vertex that is left, with its set
pub record IsNext (s : Seen) (left : ℕ → Bool) (rows : List Row) (found : Correctable) : Type 0 where
  pub there : left found.vertex ≡ true
  pub solution : IsSolution s left rows found.vertex found.members.ids

-- no vertex that is left has a set
abbrev pub AreMissed : Seen → (ℕ → Bool) → List Row → Type 0
AreMissed s left rows = (v : ℕ) → left v ≡ true → IsMissed s left rows v
