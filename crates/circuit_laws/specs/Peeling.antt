-- Changes at the outputs of a graph g by which a gate is taken off, which leaves h. Read from h to g, each puts its
-- gate after h. Backens, Miller-Bakewell, de Felice, Lobski and van de Wetering (Quantum 5, 421, 2021), on the
-- frontier of circuit extraction.
use Rattle.std.specs.Prelude.{◌≡◌, ◌≢◌, ℕ, Bool, true, false, not, ◌||◌, List, ◌∷◌, slice_get, slice_set, Some}
use Rattle.std.specs.Prelude.{if◌then◌else◌, ◌==◌}
use Rattle.std.specs.List.{list_all, AllZip}
use Rattle.zx_model.specs.Bits.{xor, member}
use Rattle.zx_calculus.specs.Graph.{YZ, Kind, End, Graph, ids, joined, plane_of, phase_of, end_vertices, IsVertex}
use Rattle.zx_calculus.specs.Graph.{plain}
use Rattle.zx_calculus.specs.Graph.{Distinct}
use Rattle.zx_calculus.specs.Graph.{OrderedEdges, with_kinds, without, insert_vertex}
use Rattle.zx_calculus.specs.Turns.{in_plane}
use Rattle.zx_calculus.specs.Splits.{spider_of_phase_zero}
use Rattle.zx_calculus.specs.Edits.{KeepsEnds, IsRemoval, is_pair}
use Rattle.zx_calculus.specs.Gadgets.{fuse_kind}
use Rattle.gflow_laws.specs.Outputs.{row_added}

-- all ends are plain
abbrev pub are_plain : List End → Bool
are_plain ends = list_all (λ e. not e.hadamard) ends

-- the output q is plain and stands at the vertex u
abbrev pub HasPlainOutput : Graph → ℕ → ℕ → Type 0
HasPlainOutput g q u = slice_get g.outputs q ≡ Some (plain u)

-- an end with a Hadamard
abbrev pub marked : ℕ → End
marked u = record { vertex = u; hadamard = true }

-- u's phase becomes 0
abbrev pub cleared_kind : ℕ → ℕ → Kind → Kind
cleared_kind u p kind = if p == u then in_plane kind.plane 0 else kind

-- a phase: g has a phase at the output q that is k more than that of h
pub record IsPhasePeel (g : Graph) (q k : ℕ) (h : Graph) : Type 0 where
  pub vertex : ℕ
  pub output : HasPlainOutput g q vertex
  pub vertices : g.vertices ≡ with_kinds (fuse_kind vertex k) h.vertices
  pub edges : g.edges ≡ h.edges
  pub inputs : g.inputs ≡ h.inputs
  pub outputs : g.outputs ≡ h.outputs

-- an edge: between the outputs p and q exactly one of g and h has one
pub record IsEdgePeel (g : Graph) (p q : ℕ) (h : Graph) : Type 0 where
  pub first : ℕ
  pub second : ℕ
  pub different : first ≢ second
  pub output : HasPlainOutput g p first
  pub output_too : HasPlainOutput g q second
  pub vertices : g.vertices ≡ h.vertices
  pub ordered_too : OrderedEdges (ids h.vertices) h.edges
  pub edges : (u v : ℕ) → u ≢ v → joined g.edges u v ≡ xor (joined h.edges u v) (is_pair first second u v)
  pub frame : KeepsEnds h g

-- a mark: the output q carries a Hadamard in g, and none in h
pub record IsMarkPeel (g : Graph) (q : ℕ) (h : Graph) : Type 0 where
  pub vertex : ℕ
  pub output : slice_get g.outputs q ≡ Some (marked vertex)
  pub vertices : g.vertices ≡ h.vertices
  pub edges : g.edges ≡ h.edges
  pub inputs : g.inputs ≡ h.inputs
  pub outputs : h.outputs ≡ slice_set g.outputs q (plain vertex)

-- a spider: in g the output q stands at a spider of phase 0 that h hasn't, adjacent to that one vertex alone at
-- which the output stands in h
pub record IsSpiderPeel (g : Graph) (q : ℕ) (h : Graph) : Type 0 where
  pub spider : ℕ
  pub next : ℕ
  pub fresh : member spider (ids h.vertices) ≡ false
  pub output : HasPlainOutput h q next
  pub vertices : g.vertices ≡ insert_vertex (spider_of_phase_zero spider) h.vertices
  pub ordered : OrderedEdges (ids g.vertices) g.edges
  pub ordered_too : OrderedEdges (ids h.vertices) h.edges
  pub edges : (p r : ℕ) → joined g.edges p r ≡ (joined h.edges p r || is_pair next spider p r)
  pub inputs : g.inputs ≡ h.inputs
  pub outputs : g.outputs ≡ slice_set h.outputs q (plain spider)

-- the phase of the output q is taken away
pub record IsPhaseCleared (g : Graph) (q : ℕ) (h : Graph) : Type 0 where
  pub vertex : ℕ
  pub output : HasPlainOutput g q vertex
  pub vertices : h.vertices ≡ with_kinds (cleared_kind vertex) g.vertices
  pub edges : h.edges ≡ g.edges
  pub inputs : h.inputs ≡ g.inputs
  pub outputs : h.outputs ≡ g.outputs

-- the frontier advances: the vertex at the output q goes, of phase 0, and its only neighbour becomes the output
pub record IsAdvance (g : Graph) (q : ℕ) (h : Graph) : Type 0 where
  pub spider : ℕ
  pub next : ℕ
  pub output : HasPlainOutput g q spider
  pub phase : phase_of g spider ≡ 0
  pub only_neighbour : (p : ℕ) → joined g.edges spider p ≡ (p == next)
  pub vertices : h.vertices ≡ without spider g.vertices
  pub ordered : OrderedEdges (ids h.vertices) h.edges
  pub edges : (p r : ℕ) → p ≢ spider → r ≢ spider → joined h.edges p r ≡ joined g.edges p r
  pub inputs : h.inputs ≡ g.inputs
  pub outputs : h.outputs ≡ slice_set g.outputs q (plain next)

-- a row: in h the neighbours of the output c are added to those of the output t. The vertex at c has phase 0 and no
-- input, and the two aren't adjacent.
pub record IsRowAddition (g : Graph) (c t : ℕ) (h : Graph) : Type 0 where
  pub added : ℕ
  pub to : ℕ
  pub different : added ≢ to
  pub output : HasPlainOutput g c added
  pub output_too : HasPlainOutput g t to
  pub phase : phase_of g added ≡ 0
  pub no_input : member added (end_vertices g.inputs) ≡ false
  pub not_adjacent : joined g.edges added to ≡ false
  pub vertices : g.vertices ≡ h.vertices
  pub ordered_too : OrderedEdges (ids h.vertices) h.edges
  pub edges : (p q : ℕ) → p ≢ q → joined h.edges p q ≡ row_added (joined g.edges) added to p q
  pub frame : KeepsEnds h g

-- two outputs that are exchanged
pub record IsExchange (g : Graph) (p q : ℕ) (h : Graph) : Type 0 where
  pub first : ℕ
  pub second : ℕ
  pub different : p ≢ q
  pub output : HasPlainOutput g p first
  pub output_too : HasPlainOutput g q second
  pub vertices : g.vertices ≡ h.vertices
  pub edges : g.edges ≡ h.edges
  pub inputs : g.inputs ≡ h.inputs
  pub outputs : h.outputs ≡ slice_set (slice_set g.outputs p (plain second)) q (plain first)

-- wires alone: each vertex has phase 0, an input and an output, both at the same place in their lists; there are no
-- edges, and the outputs are plain
pub record IsWires (g : Graph) : Type 0 where
  pub phase : (u : ℕ) → IsVertex g u → phase_of g u ≡ 0
  pub output : (u : ℕ) → IsVertex g u → member u (end_vertices g.outputs) ≡ true
  pub in_line : end_vertices g.inputs ≡ end_vertices g.outputs
  pub plain_outputs : list_all (λ e. not e.hadamard) g.outputs ≡ true
  pub no_edges : (p q : ℕ) → joined g.edges p q ≡ false

-- a gadget on outputs: the YZ vertex v goes, whose neighbours are the vertices at these outputs
pub record IsGadgetPeel (g : Graph) (v : ℕ) (qubits : List ℕ) (h : Graph) : Type 0 where
  pub legs : List ℕ
  pub plane : plane_of g v ≡ YZ
  pub once : Distinct legs
  pub at_outputs : AllZip (HasPlainOutput g) qubits legs
  pub neighbours : (p : ℕ) → joined g.edges v p ≡ member p legs
  pub removal : IsRemoval g v h

-- a gadget through an output: the YZ vertex v goes, whose neighbours are those of the vertex at the output q, which has
-- phase 0 and no input, and the vertices at some other outputs
pub record IsLinkedGadgetPeel (g : Graph) (v q : ℕ) (qubits : List ℕ) (h : Graph) : Type 0 where
  pub link : ℕ
  pub legs : List ℕ
  pub plane : plane_of g v ≡ YZ
  pub output : HasPlainOutput g q link
  pub phase : phase_of g link ≡ 0
  pub no_input : member link (end_vertices g.inputs) ≡ false
  pub once : Distinct (link ∷ legs)
  pub at_outputs : AllZip (HasPlainOutput g) qubits legs
  pub neighbours : (p : ℕ) → joined g.edges v p ≡ xor (joined g.edges link p) (member p legs)
  pub removal : IsRemoval g v h
