-- What a generalised flow sees of an open graph: its vertices, what is adjacent, the planes, and which vertices have
-- an input or an output. It sees no phase. Backens, Miller-Bakewell, de Felice, Lobski and van de Wetering, "There and back
-- again: a circuit extraction tale" (Quantum 5, 421, 2021).
use Rattle.std.specs.Prelude.{ℕ, Bool, if◌then◌else◌, not, ◌&&◌, ◌==◌, List}
use Rattle.zx_model.specs.Bits.{xor, member}
use Rattle.zx_calculus.specs.Graph.{Plane, XY, XZ, YZ, Graph, ids, joined, end_vertices, plane_of}
use Rattle.zx_calculus.specs.Parity.{masked}

pub record Seen : Type 0 where
  pub ids : List ℕ
  pub adjacent : ℕ → ℕ → Bool
  pub plane : ℕ → Plane
  pub input : ℕ → Bool
  pub output : ℕ → Bool

abbrev pub seen : Graph → Seen
seen g = record {
  ids = ids g.vertices;
  adjacent = joined g.edges;
  plane = plane_of g;
  input = λ v. member v (end_vertices g.inputs);
  output = λ v. member v (end_vertices g.outputs);
}

-- Odd(A): whether v has an odd number of neighbours in the set
abbrev pub in_odd_neighbourhood : Seen → (ℕ → Bool) → ℕ → Bool
in_odd_neighbourhood s set v = masked (s.adjacent v) s.ids set

-- the plane of a vertex after a local complement about it
abbrev pub complemented_plane : Plane → Plane
complemented_plane XY = XZ
complemented_plane XZ = XY
complemented_plane YZ = YZ

-- the plane of a vertex after a quarter turn
abbrev pub turned_plane : Plane → Plane
turned_plane XY = XY
turned_plane XZ = YZ
turned_plane YZ = XZ

-- what a flow sees after a local complement about u
abbrev pub complemented : Seen → ℕ → Seen
complemented s u = record {
  ids = s.ids;
  adjacent = λ p q. not (p == q) && xor (s.adjacent p q) (s.adjacent u p && s.adjacent u q);
  plane = λ p.
      if p == u then complemented_plane (s.plane p) else if s.adjacent u p then turned_plane (s.plane p) else s.plane p;
  input = s.input;
  output = s.output;
}
