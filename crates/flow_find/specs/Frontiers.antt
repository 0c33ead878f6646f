-- Rows of an elimination from which correction sets are read.
-- Mhalla and Perdrix, "Finding optimal flows efficiently" (ICALP 2008), and Backens,
-- Miller-Bakewell, de Felice, Lobski and van de Wetering, "There and back again: a circuit extraction
-- tale" (Quantum 5, 421, 2021), on finding generalised flows: a correction set solves linear
-- equations over two elements, one for each vertex that comes before. Here one elimination, whose
-- rows are kept, solves the equations of all vertices.
use Rattle.std.specs.Prelude.{◌≡◌, ℕ, Bool, true, false, not, ◌&&◌, ◌||◌, ◌==◌, List, [], ◌∷◌}
use Rattle.zx_model.specs.Bits.{xor, member}
use Rattle.gflow_laws.specs.Seen.{Seen, in_odd_neighbourhood}
use Rattle.gflow_laws.specs.Flow.{is_in, inside_in, odd_in}
use Rattle.flow_find.specs.declared.row.Row.{Row}

-- all rows have this property
abbrev pub AreAll : (Row → Type 0) → List Row → Type 0
AreAll P [] = Unit {0}
AreAll P (r ∷ rs) = P r × AreAll P rs

-- the sum of the columns of the rows whose pivots are picked
abbrev pub combined : (ℕ → Bool) → List Row → ℕ → Bool
combined picked [] w = false
combined picked (r ∷ rs) w = xor (picked r.pivot && member w r.columns.ids) (combined picked rs w)

-- the sum of their members
abbrev pub gathered : (ℕ → Bool) → List Row → ℕ → Bool
gathered picked [] w = false
gathered picked (r ∷ rs) w = xor (picked r.pivot && member w r.members.ids) (gathered picked rs w)

-- the neighbours of v where the first bit says so, and v itself where the second does
abbrev pub around : Seen → ℕ → Bool → Bool → ℕ → Bool
around s v neighbours itself w = xor (neighbours && s.adjacent v w) (itself && (w == v))

-- what the odd neighbourhood of a correction set of v without v is on the vertices that are left
abbrev pub target_of : Seen → ℕ → ℕ → Bool
target_of s v = around s v (inside_in (s.plane v)) (odd_in (s.plane v))

-- the correction set of v that the rows give
abbrev pub set_from : Seen → List Row → ℕ → ℕ → Bool
set_from s rows v w = xor (inside_in (s.plane v) && (w == v)) (gathered (target_of s v) rows w)

-- whether a vertex may be a member of a set: it has no input and isn't left
abbrev pub usable : Seen → (ℕ → Bool) → ℕ → Bool
usable s left w = member w s.ids && (not (s.input w) && not (left w))

-- some set of usable vertices has the target of v as its odd neighbourhood, on the vertices left
pub record IsCorrectable (s : Seen) (left : ℕ → Bool) (v : ℕ) : Type 0 where
  pub set : ℕ → Bool
  pub members : (w : ℕ) → set w ≡ true → usable s left w ≡ true
  pub sums : (w : ℕ) → left w ≡ true → in_odd_neighbourhood s set w ≡ target_of s v w

-- the columns of a row are the odd neighbourhood of its members, on the vertices left
pub record IsRow (s : Seen) (left may : ℕ → Bool) (r : Row) : Type 0 where
  pub columns : (w : ℕ) → member w r.columns.ids ≡ (left w && in_odd_neighbourhood s (is_in r.members.ids) w)
  pub members : (w : ℕ) → member w r.members.ids ≡ true → may w ≡ true

-- they are such rows, with pivots that are held; and the neighbours of each vertex that may be a
-- member, cut to those left, are the sum of the rows at whose pivots they stand
pub record IsFrontier (s : Seen) (left held may : ℕ → Bool) (rows : List Row) : Type 0 where
  pub each : AreAll (IsRow s left may) rows
  pub pivots : AreAll (λ r. held r.pivot ≡ true) rows
  pub spans : (u w : ℕ) → may u ≡ true → left w ≡ true →
      s.adjacent u w ≡ combined (s.adjacent u) rows w

-- among vertices that are left, v is one, and has no input where it is in its own set
pub record IsLeft (s : Seen) (left : ℕ → Bool) (v : ℕ) : Type 0 where
  pub vertices : (w : ℕ) → left w ≡ true → member w s.ids ≡ true
  pub there : left v ≡ true
  pub no_input : inside_in (s.plane v) ≡ true → s.input v ≡ false

-- nothing that comes after v is left
abbrev pub NoneLeftAfter : (ℕ → ℕ → Bool) → (ℕ → Bool) → ℕ → Type 0
NoneLeftAfter before left v = (w : ℕ) → before v w ≡ true → left w ≡ false

-- all vertices that aren't left come after v
abbrev pub AllGoneAfter : Seen → (ℕ → ℕ → Bool) → (ℕ → Bool) → ℕ → Type 0
AllGoneAfter s before left v = (w : ℕ) → member w s.ids ≡ true → left w ≡ false → before v w ≡ true

-- the rows of all usable vertices
abbrev pub IsFrontierOf : Seen → (ℕ → Bool) → List Row → Type 0
IsFrontierOf s left rows = IsFrontier s left left (usable s left) rows

-- a set with one vertex more
abbrev pub with_one : (ℕ → Bool) → ℕ → ℕ → Bool
with_one set v w = set w || (w == v)

-- the neighbours of v, cut to the vertices left, are a sum of rows
abbrev pub IsSpanned : Seen → (ℕ → Bool) → List Row → ℕ → Type 0
IsSpanned s left rows v = (w : ℕ) → left w ≡ true → s.adjacent v w ≡ combined (s.adjacent v) rows w
