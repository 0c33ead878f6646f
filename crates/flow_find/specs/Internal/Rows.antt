-- What becomes of rows, one by one.
use Rattle.std.specs.Prelude.{◌≡◌, ◌≤◌, ◌+◌, ℕ, Bool, true, false, not, ◌&&◌, ◌==◌, ◌⊎◌, List, [], ◌∷◌, ◌++◌}
use Rattle.zx_model.specs.Bits.{xor, member, one_if}
use Rattle.gflow_laws.specs.Seen.{Seen}
use Rattle.flow_find.specs.declared.row.Row.{Row}
use Rattle.flow_find.specs.Frontiers.{combined, gathered, IsCorrectable, IsFrontier, IsFrontierOf, with_one}

-- each row of the second list is what becomes of that of the first
abbrev pub AreEach : (Row → Row → Type 0) → List Row → List Row → Type 0
AreEach change [] [] = Unit {0}
AreEach change (o ∷ os) (n ∷ ns) = change o n × AreEach change os ns
AreEach change [] (n ∷ ns) = ⊥
AreEach change (o ∷ os) [] = ⊥

-- a row is added where the bit says so
pub record IsAdded (picked : Bool) (row old new : Row) : Type 0 where
  pub pivot : new.pivot ≡ old.pivot
  pub columns : (w : ℕ) →
      member w new.columns.ids ≡ xor (member w old.columns.ids) (picked && member w row.columns.ids)
  pub members : (w : ℕ) →
      member w new.members.ids ≡ xor (member w old.members.ids) (picked && member w row.members.ids)

-- the rows whose pivots are picked are added
pub record IsSum (picked : ℕ → Bool) (rows : List Row) (old new : Row) : Type 0 where
  pub columns : (w : ℕ) → member w new.columns.ids ≡ xor (member w old.columns.ids) (combined picked rows w)
  pub members : (w : ℕ) → member w new.members.ids ≡ xor (member w old.members.ids) (gathered picked rows w)

-- a row is added where a column or a member stands
abbrev pub IsCleared : ℕ → Row → Row → Row → Type 0
IsCleared p row old new = IsAdded (member p old.columns.ids) row old new

abbrev pub IsRelieved : ℕ → Row → Row → Row → Type 0
IsRelieved m row old new = IsAdded (member m old.members.ids) row old new

-- a column goes
pub record IsDropped (v : ℕ) (old new : Row) : Type 0 where
  pub pivot : new.pivot ≡ old.pivot
  pub columns : (w : ℕ) → member w new.columns.ids ≡ (not (w == v) && member w old.columns.ids)
  pub members : new.members.ids ≡ old.members.ids

-- a row is put among the others: one of its columns p becomes its pivot and is cleared in them
pub record IsPivoted (row : Row) (old new : List Row) : Type 0 where
  pub pivot : ℕ
  pub has_it : member pivot row.columns.ids ≡ true
  pub others : List Row
  pub cleared : AreEach (IsCleared pivot row) old others
  pub last : new ≡ others ++ record row { pivot = pivot } ∷ []

-- a row without columns: it is added where a member stands, or nowhere
pub record IsSpent (row : Row) (old new : List Row) : Type 0 where
  pub empty : row.columns.ids ≡ []
  pub test : Row → Bool
  pub added : AreEach (λ o n. IsAdded (test o) row o n) old new

abbrev pub IsPut : Row → List Row → List Row → Type 0
IsPut row old new = IsPivoted row old new ⊎ IsSpent row old new

-- a row with this pivot is taken out
pub record IsRowTaken (v : ℕ) (row : Row) (old new : List Row) : Type 0 where
  pub before : List Row
  pub after : List Row
  pub pivot : row.pivot ≡ v
  pub was : old ≡ before ++ row ∷ after
  pub is : new ≡ before ++ after

-- the rows of the vertices that may be members, with pivots that are left
abbrev pub IsFrontierFor : Seen → (ℕ → Bool) → (ℕ → Bool) → List Row → Type 0
IsFrontierFor s left may rows = IsFrontier s left left may rows

-- the rows before v goes, which is correctable
abbrev pub IsPassable : Seen → (ℕ → Bool) → ℕ → List Row → Type 0
IsPassable s left v rows =
    IsFrontierOf s (with_one left v) rows × IsCorrectable s (with_one left v) v

-- how many rows have this pivot
abbrev pub stale : ℕ → List Row → ℕ
stale v [] = 0
stale v (r ∷ rs) = one_if (r.pivot == v) + stale v rs

-- the rows with this pivot add up to nothing, and there are some
pub record IsCancelled (v : ℕ) (rows : List Row) : Type 0 where
  pub sum : (w : ℕ) → combined (λ p. p == v) rows w ≡ false
  pub some : 1 ≤ stale v rows
