-- Which vertex comes next, from the end of an order.
use Rattle.std.specs.Prelude.{◌≡◌, true, ◌<◌, ◌≤◌, ℕ, ◌==◌, ◌⊎◌, List, ◌∷◌, ◌++◌, length}
use Rattle.std.specs.Prelude.{slice_index_or, if◌then◌else◌}
use Rattle.zx_model.specs.Bits.{member}
use Rattle.zx_calculus.specs.Graph.{XY}
use Rattle.gflow_laws.specs.Seen.{Seen}
use Rattle.gflow_laws.specs.Flow.{Correction, set_of, is_in}
use Rattle.gflow_laws.specs.Tables.{with_sets}
use Rattle.flow_find.specs.declared.row.Row.{Row}
use Rattle.flow_find.specs.Frontiers.{set_from}

-- v is the only column of a row, and XY
pub record IsAloneIn (s : Seen) (row : Row) (v : ℕ) : Type 0 where
  pub only : (w : ℕ) → member w row.columns.ids ≡ (w == v)
  pub plane : s.plane v ≡ XY

-- so it is in one of the rows
pub record IsAlone (s : Seen) (rows : List Row) (v : ℕ) : Type 0 where
  pub row : Row
  pub place : ℕ
  pub within : place < length rows
  pub there : row ≡ slice_index_or rows place row
  pub alone : IsAloneIn s row v

-- v stands at this place, which isn't behind the last one
pub record IsPlaceBefore (order : List ℕ) (v last place : ℕ) : Type 0 where
  pub ordered : place ≤ last
  pub there : v ≡ slice_index_or order place v

-- the place of a vertex that is alone in a row
pub record IsNextPlace (s : Seen) (rows : List Row) (order : List ℕ) (last place : ℕ) : Type 0 where
  pub vertex : ℕ
  pub before : IsPlaceBefore order vertex last place
  pub alone : IsAlone s rows vertex

-- the vertex of a place goes to a later one
pub record IsPutOff (place last : ℕ) (old new : List ℕ) : Type 0 where
  pub vertex : ℕ
  pub before : List ℕ
  pub after : List ℕ
  pub gone : List ℕ
  pub there : vertex ≡ slice_index_or old place vertex
  pub size : length (before ++ after) ≡ last
  pub was : old ≡ before ++ vertex ∷ (after ++ gone)
  pub is : new ≡ (before ++ after) ++ vertex ∷ gone

-- a vertex that is alone in a row was put off, or none
pub record IsMoved (s : Seen) (rows : List Row) (last : ℕ) (old new : List ℕ) : Type 0 where
  pub place : ℕ
  pub put_off : IsPutOff place last old new
  pub alone : IsAlone s rows put_off.vertex

abbrev pub IsChosen : Seen → List Row → ℕ → List ℕ → List ℕ → Type 0
IsChosen s rows last old new = IsMoved s rows last old new ⊎ (new ≡ old)

-- the set of v that the rows give is put into a table
pub record IsSetFrom (s : Seen) (rows : List Row) (v : ℕ) (old new : List Correction) : Type 0 where
  pub members : List ℕ
  pub given : (w : ℕ) → member w members ≡ set_from s rows v w
  pub put : new ≡ with_sets (λ u set. if u == v then members else set) old

-- the vertices of these have the sets of a table in another
abbrev pub HasSetsOf : List Correction → List ℕ → List Correction → Type 0
HasSetsOf table order new = (v w : ℕ) → member v order ≡ true →
    is_in (set_of new v) w ≡ is_in (set_of table v) w
