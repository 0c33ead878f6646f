-- The local complements that a step is: what a flow sees before each of them.
use Rattle.std.specs.Prelude.{⊤, ◌≡◌, ℕ, true}
use Rattle.zx_calculus.specs.Graph.{Graph, Plane, joined, IsVertex}
use Rattle.gflow_laws.specs.Seen.{Seen, complemented, complemented_plane, turned_plane}
use Rattle.flow_rewrites.specs.declared.sets.Stage.{Stage}
use Rattle.flow_rewrites.specs.declared.sets.Stage.TheVariants.{First, Second, Third}

-- before a stage that is about u, where w is the other vertex of a pivot
abbrev pub view : Stage → Seen → ℕ → Seen
view First s u = s
view (Second w) s u = complemented s w
view (Third w) s u = complemented (complemented s u) w

-- the plane of u there, by its plane before the step
abbrev pub plane_in : Stage → Plane → Plane
plane_in First plane = plane
plane_in (Second w) plane = turned_plane plane
plane_in (Third w) plane = turned_plane (complemented_plane plane)

-- the other vertex is adjacent to u
abbrev pub IsBeside : Graph → ℕ → Stage → Type 0
IsBeside g u First = ⊤
IsBeside g u (Second w) = IsVertex g w × (joined g.edges u w ≡ true)
IsBeside g u (Third w) = IsVertex g w × (joined g.edges u w ≡ true)
