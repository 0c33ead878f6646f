-- Generalised flow, of an open graph whose vertices are measured in three planes.
-- Browne, Kashefi, Mhalla and Perdrix, "Generalized flow and determinism in measurement-based quantum
-- computation" (New J. Phys. 9, 250, 2007); for three planes Backens, Miller-Bakewell, de Felice, Lobski and van
-- de Wetering, "There and back again: a circuit extraction tale" (Quantum 5, 421, 2021). There the
-- order is partial; here it is a list, in which the vertices stand by that order.
use Rattle.std.specs.Prelude.{◌≡◌, ℕ, Bool, true, false, if◌then◌else◌, not, ◌&&◌, ◌||◌, ◌==◌, List, [], ◌∷◌, ◌≢◌}
use Rattle.std.specs.List.{list_all}
use Rattle.zx_model.specs.Bits.{member}
use Rattle.zx_calculus.specs.Graph.{Plane, XY, XZ, YZ, Graph, in_order, different}
use Rattle.gflow_laws.specs.Seen.{Seen, seen, in_odd_neighbourhood}

-- a vertex with its correction set
pub record Correction : Type 0 where
  pub vertex : ℕ
  pub members : List ℕ

-- the vertices that have a correction set, in the order of the list
abbrev pub order_of : List Correction → List ℕ
order_of [] = []
order_of (e ∷ es) = e.vertex ∷ order_of es

-- the correction set of v
abbrev pub set_of : List Correction → ℕ → List ℕ
set_of [] v = []
set_of (e ∷ es) v = if v == e.vertex then e.members else set_of es v

-- whether a number is among the members of a set
abbrev pub is_in : List ℕ → ℕ → Bool
is_in members w = member w members

-- whether w comes after v: v stands in the order, and w doesn't stand there up to v.
-- So whatever isn't in the order, as the outputs, comes after all that is
abbrev pub is_later : List ℕ → ℕ → ℕ → Bool
is_later [] v w = false
is_later (x ∷ xs) v w = not (w == x) && ((v == x) || is_later xs v w)

-- no member of the set is an input
abbrev pub input_holds : Seen → List ℕ → Bool
input_holds s members = list_all (λ w. not (s.input w)) members

-- each member of the set other than v comes after v
abbrev pub order_holds : List ℕ → ℕ → List ℕ → Bool
order_holds order v members = list_all (λ w. (w == v) || is_later order v w) members

-- each vertex with an odd number of neighbours in the set, other than v, comes after v
abbrev pub odd_holds : Seen → List ℕ → ℕ → List ℕ → Bool
odd_holds s order v members =
    list_all (λ w. not (in_odd_neighbourhood s (is_in members) w) || ((w == v) || is_later order v w)) s.ids

-- v isn't in the set, and has an odd number of neighbours in it
abbrev pub XY_holds : Seen → ℕ → List ℕ → Bool
XY_holds s v members = not (is_in members v) && in_odd_neighbourhood s (is_in members) v

-- v is in the set, and has an odd number of neighbours in it
abbrev pub XZ_holds : Seen → ℕ → List ℕ → Bool
XZ_holds s v members = is_in members v && in_odd_neighbourhood s (is_in members) v

-- v is in the set, and has an even number of neighbours in it
abbrev pub YZ_holds : Seen → ℕ → List ℕ → Bool
YZ_holds s v members = is_in members v && not (in_odd_neighbourhood s (is_in members) v)

-- the condition of the plane of v
abbrev pub plane_holds : Seen → Plane → ℕ → List ℕ → Bool
plane_holds s XY v members = XY_holds s v members
plane_holds s XZ v members = XZ_holds s v members
plane_holds s YZ v members = YZ_holds s v members

-- the order holds each vertex that isn't an output once and nothing else, and the sets hold vertices
pub record IsTableOf (s : Seen) (table : List Correction) : Type 0 where
  pub each_once : in_order different (order_of table) ≡ true
  pub no_others : list_all (λ v. member v s.ids && not (s.output v)) (order_of table) ≡ true
  pub all_there : list_all (λ v. s.output v || member v (order_of table)) s.ids ≡ true
  pub vertices : list_all (λ v. list_all (λ w. member w s.ids) (set_of table v)) (order_of table) ≡ true

-- it is such a table, and the four conditions hold of each vertex in the order
pub record IsFlowOf (s : Seen) (table : List Correction) : Type 0 where
  pub is_table : IsTableOf s table
  pub input : list_all (λ v. input_holds s (set_of table v)) (order_of table) ≡ true
  pub order : list_all (λ v. order_holds (order_of table) v (set_of table v)) (order_of table) ≡ true
  pub odd : list_all (λ v. odd_holds s (order_of table) v (set_of table v)) (order_of table) ≡ true
  pub plane : list_all (λ v. plane_holds s (s.plane v) v (set_of table v)) (order_of table) ≡ true

-- the table is a flow of the graph
abbrev pub IsFlow : Graph → List Correction → Type 0
IsFlow g table = IsFlowOf (seen g) table

-- two tables with the same order and the same sets, in whatever order their members are listed
pub record SameSets (table other : List Correction) : Type 0 where
  pub order : order_of table ≡ order_of other
  pub members : (v w : ℕ) → is_in (set_of table v) w ≡ is_in (set_of other v) w

-- whether a vertex of this plane is in its correction set
abbrev pub inside_in : Plane → Bool
inside_in XY = false
inside_in XZ = true
inside_in YZ = true

-- whether a vertex of this plane has an odd number of neighbours in its correction set
abbrev pub odd_in : Plane → Bool
odd_in XY = true
odd_in XZ = true
odd_in YZ = false

-- The set meets the conditions of v, both as functions: with the order and the sets of a table these are the four
-- conditions of `IsFlowOf`.
pub record Corrects (s : Seen) (before : ℕ → ℕ → Bool) (v : ℕ) (A : ℕ → Bool) : Type 0 where
  pub members : (w : ℕ) → A w ≡ true → member w s.ids ≡ true
  pub input : (w : ℕ) → A w ≡ true → s.input w ≡ false
  pub order : (w : ℕ) → A w ≡ true → w ≢ v → before v w ≡ true
  pub odd_order : (w : ℕ) → member w s.ids ≡ true → in_odd_neighbourhood s A w ≡ true → w ≢ v → before v w ≡ true
  pub inside : A v ≡ inside_in (s.plane v)
  pub odd_there : in_odd_neighbourhood s A v ≡ odd_in (s.plane v)
