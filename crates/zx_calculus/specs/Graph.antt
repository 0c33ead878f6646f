-- Open graphs: labelled simple graphs with inputs, outputs and measurement planes.
-- Backens, Miller-Bakewell, de Felice, Lobski and van de Wetering, "There and back again: a circuit
-- extraction tale" (Quantum 5, 421, 2021), on labelled open graphs; that a vertex carries a plane and a phase together
-- stands there for a spider with its measurement effect. All edges are Hadamard edges, as in the graph-like
-- diagrams of Duncan, Kissinger, Perdrix and van de Wetering (Quantum 4, 279, 2020).
use Rattle.std.specs.Prelude.{◌≡◌, ℕ, Bool, true, false, if◌then◌else◌, not, ◌&&◌, ◌||◌, ◌==◌, ltb, List, [], ◌∷◌}
use Rattle.std.specs.Prelude.{filter}
use Rattle.std.specs.List.{list_all}
use Rattle.zx_model.specs.Phase.{turn}
use Rattle.zx_model.specs.Bits.{member}

-- the plane of the Bloch sphere in which a vertex is measured
pub data Plane : Type 0 where
  XY XZ YZ : Plane

-- plane and phase together
pub record Kind : Type 0 where
  pub plane : Plane
  pub phase : ℕ

pub record Vertex : Type 0 where
  pub id : ℕ
  pub kind : Kind

-- an edge joins two different vertices; the lower id is named first
pub record Edge : Type 0 where
  pub lower : ℕ
  pub higher : ℕ

-- an input or output wire at a vertex, and whether it carries a Hadamard; several inputs are told apart by their place
-- in the list, and so are outputs
pub record End : Type 0 where
  pub vertex : ℕ
  pub hadamard : Bool

-- an end without a Hadamard
abbrev pub plain : ℕ → End
plain v = record { vertex = v; hadamard = false }

-- bit i of the inputs belongs to the i-th input, and likewise for the outputs
pub record Graph : Type 0 where
  pub vertices : List Vertex
  pub edges : List Edge
  pub inputs : List End
  pub outputs : List End

abbrev pub ids : List Vertex → List ℕ
ids [] = []
ids (v ∷ vs) = v.id ∷ ids vs

-- plane and phase of the vertex with an id
abbrev pub kind_of : List Vertex → ℕ → Kind
kind_of [] u = record { plane = XY; phase = 0 }
kind_of (v ∷ vs) u = if u == v.id then v.kind else kind_of vs u

abbrev pub plane_of : Graph → ℕ → Plane
plane_of g u = (kind_of g.vertices u).plane

abbrev pub phase_of : Graph → ℕ → ℕ
phase_of g u = (kind_of g.vertices u).phase

-- whether an edge joins p and q, in either order
abbrev pub joins : Edge → ℕ → ℕ → Bool
joins e p q = ((p == e.lower) && (q == e.higher)) || ((q == e.lower) && (p == e.higher))

-- whether some listed edge joins p and q
abbrev pub joined : List Edge → ℕ → ℕ → Bool
joined [] p q = false
joined (e ∷ es) p q = joins e p q || joined es p q

-- the vertices that hold the listed ends
abbrev pub end_vertices : List End → List ℕ
end_vertices [] = []
end_vertices (e ∷ es) = e.vertex ∷ end_vertices es

-- u is a vertex of g
abbrev pub IsVertex : Graph → ℕ → Type 0
IsVertex g u = member u (ids g.vertices) ≡ true

-- u holds no end
pub record Interior (g : Graph) (u : ℕ) : Type 0 where
  pub no_input : member u (end_vertices g.inputs) ≡ false
  pub no_output : member u (end_vertices g.outputs) ≡ false

-- the test of the same
abbrev pub is_interior : Graph → ℕ → Bool
is_interior g u = not (member u (end_vertices g.inputs) || member u (end_vertices g.outputs))

-- whether each element stands in this relation to all later ones
abbrev pub in_order : {A : Type 0} → (A → A → Bool) → List A → Bool
in_order before [] = true
in_order before (x ∷ xs) = list_all (before x) xs && in_order before xs

abbrev pub different : ℕ → ℕ → Bool
different p q = not (p == q)

-- each listed id stands once
abbrev pub Distinct : List ℕ → Type 0
Distinct [] = Unit {0}
Distinct (v ∷ vs) = (member v vs ≡ false) × Distinct vs

-- the order of pairs by first, then second part
abbrev pub edge_before : Edge → Edge → Bool
edge_before d e = ltb d.lower e.lower || ((d.lower == e.lower) && ltb d.higher e.higher)

-- edges between listed vertices: each joins two different ones, none stands twice, and they stand in order
pub record OrderedEdges (vertices : List ℕ) (edges : List Edge) : Type 0 where
  pub lower_first : list_all (λ e. ltb e.lower e.higher) edges ≡ true
  pub rising : in_order edge_before edges ≡ true
  pub lower_there : list_all (λ e. member e.lower vertices) edges ≡ true
  pub higher_there : list_all (λ e. member e.higher vertices) edges ≡ true

abbrev pub is_XY : Plane → Bool
is_XY XY = true
is_XY plane = false

abbrev pub is_XZ : Plane → Bool
is_XZ XZ = true
is_XZ plane = false

abbrev pub is_YZ : Plane → Bool
is_YZ YZ = true
is_YZ plane = false

-- ends at XY vertices, at most one at each
pub record OrderedEnds (vertices : List Vertex) (ends : List End) : Type 0 where
  pub one_each : in_order different (end_vertices ends) ≡ true
  pub there : list_all (λ u. member u (ids vertices)) (end_vertices ends) ≡ true
  pub at_XY : list_all (λ u. is_XY (kind_of vertices u).plane) (end_vertices ends) ≡ true

-- ids differ and vertices stand by rising id; edges join two different vertices, each pair once; a vertex has
-- at most one input and at most one output, and is XY where it has an end; phases are below a turn
pub record WellFormed (g : Graph) : Type 0 where
  pub vertices_rising : in_order ltb (ids g.vertices) ≡ true
  pub phases_below_a_turn : list_all (λ v. ltb v.kind.phase turn) g.vertices ≡ true
  pub edges : OrderedEdges (ids g.vertices) g.edges
  pub inputs : OrderedEnds g.vertices g.inputs
  pub outputs : OrderedEnds g.vertices g.outputs

-- the vertices adjacent to u, in order
abbrev pub neighbours : Graph → ℕ → List ℕ
neighbours g u = filter (joined g.edges u) (ids g.vertices)

-- a change of planes and phases alone, by id
abbrev pub with_kinds : (ℕ → Kind → Kind) → List Vertex → List Vertex
with_kinds change [] = []
with_kinds change (v ∷ vs) = record { id = v.id; kind = change v.id v.kind } ∷ with_kinds change vs

-- the vertices other than u
abbrev pub without : ℕ → List Vertex → List Vertex
without u [] = []
without u (v ∷ vs) = if u == v.id then without u vs else v ∷ without u vs

-- one more vertex, at its place in the order
abbrev pub insert_vertex : Vertex → List Vertex → List Vertex
insert_vertex n [] = n ∷ []
insert_vertex n (v ∷ vs) = if ltb n.id v.id then n ∷ (v ∷ vs) else v ∷ insert_vertex n vs
