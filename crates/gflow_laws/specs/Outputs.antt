-- Flows where a graph changes at its outputs: where gates are put behind it, or taken off its end.
-- Backens, Miller-Bakewell, de Felice, Lobski and van de Wetering, "There and back again: a circuit extraction
-- tale" (Quantum 5, 421, 2021), on extraction.
use Rattle.std.specs.Prelude.{◌≡◌, ◌≢◌, ℕ, Bool, true, false, not, ◌&&◌, ◌||◌, ◌==◌, if◌then◌else◌, List, [], ◌∷◌, ◌++◌}
use Rattle.std.specs.Prelude.{filter}
use Rattle.zx_model.specs.Bits.{xor, member}
use Rattle.zx_calculus.specs.Graph.{Graph, ids, joined, end_vertices, different, insert_vertex}
use Rattle.zx_calculus.specs.Splits.{spider_of_phase_zero, move_end}
use Rattle.zx_calculus.specs.Edits.{is_pair}
use Rattle.gflow_laws.specs.Seen.{Seen}
use Rattle.gflow_laws.specs.Flow.{Correction, is_in}
use Rattle.gflow_laws.specs.Tables.{symmetric_difference, with_sets}
use Rattle.gflow_laws.specs.Correcting.{Simple, FlowAsFunctions}

-- the view with the edge between p and q toggled
abbrev pub toggled : Seen → ℕ → ℕ → Seen
toggled s p q = record {
  ids = s.ids;
  adjacent = λ v w. xor (s.adjacent v w) (is_pair p q v w);
  plane = s.plane;
  input = s.input;
  output = s.output;
}

-- what is adjacent after the neighbours of c were toggled at t: row c of the adjacency matrix is added to row t
abbrev pub row_added : (ℕ → ℕ → Bool) → ℕ → ℕ → ℕ → ℕ → Bool
row_added a c t p q = xor (a p q) (xor (t == p && a c q) (a c p && t == q))

abbrev pub with_row_added : Seen → ℕ → ℕ → Seen
with_row_added s c t = record {
  ids = s.ids;
  adjacent = row_added s.adjacent c t;
  plane = s.plane;
  input = s.input;
  output = s.output;
}

-- c and t are two outputs, and c is no input: row c may be added to row t
pub record MayAddRow (s : Seen) (c t : ℕ) : Type 0 where
  pub there : member c s.ids ≡ true
  pub there_too : member t s.ids ≡ true
  pub output : s.output c ≡ true
  pub output_too : s.output t ≡ true
  pub no_input : s.input c ≡ false
  pub apart : c ≢ t

-- a correction set after row c was added to row t: c is toggled where t is a member
abbrev pub row_added_set : ℕ → ℕ → List ℕ → List ℕ
row_added_set c t members = if is_in members t then symmetric_difference members (c ∷ []) else members

abbrev pub row_added_table : ℕ → ℕ → List Correction → List Correction
row_added_table c t table = with_sets (λ v members. row_added_set c t members) table

-- e comes last in a flow, behind pre, in a simple graph in which no edge joins two outputs
pub record IsLast (s : Seen) (pre : List Correction) (e : Correction) : Type 0 where
  pub simple : Simple s
  pub flow : FlowAsFunctions s (pre ++ e ∷ [])
  pub apart : (p q : ℕ) → s.output p ≡ true → s.output q ≡ true → s.adjacent p q ≡ false

-- the members of a correction set other than its vertex
abbrev pub others : Correction → ℕ → Bool
others e w = is_in e.members w && not (w == e.vertex)

-- the view without the vertex u
abbrev pub without_vertex : Seen → ℕ → Seen
without_vertex s u = record {
  ids = filter (different u) s.ids;
  adjacent = s.adjacent;
  plane = s.plane;
  input = s.input;
  output = s.output;
}

-- x is an output, and v is its only neighbour
pub record IsLeafOutput (s : Seen) (x v : ℕ) : Type 0 where
  pub there : member x s.ids ≡ true
  pub output : s.output x ≡ true
  pub only : (w : ℕ) → member w s.ids ≡ true → s.adjacent x w ≡ (w == v)

-- the view after the output x went, and v has the output in its place
abbrev pub advanced : Seen → ℕ → ℕ → Seen
advanced s x v = record {
  ids = filter (different x) s.ids;
  adjacent = s.adjacent;
  plane = s.plane;
  input = s.input;
  output = λ w. w == v || (s.output w && different x w);
}

-- the flow after x went: it goes from each set
abbrev pub advanced_table : ℕ → List Correction → List Correction
advanced_table x table = with_sets (λ v members. filter (different x) members) table

-- the flow after the vertex of the last correction e went, which wasn't XY: where it is in a set, that of e is toggled
abbrev pub last_removed_table : Correction → List Correction → List Correction
last_removed_table e pre =
    with_sets (λ v members. if is_in members e.vertex then symmetric_difference members e.members else members) pre

-- h is g with a new spider behind the output at b: it is adjacent to b alone and has the output, whatever its mark
pub record IsNewOutput (g : Graph) (b : ℕ) (h : Graph) : Type 0 where
  pub new : ℕ
  pub fresh : member new (ids g.vertices) ≡ false
  pub has_output : member b (end_vertices g.outputs) ≡ true
  pub vertices : h.vertices ≡ insert_vertex (spider_of_phase_zero new) g.vertices
  pub edges : (p q : ℕ) → joined h.edges p q ≡ (joined g.edges p q || is_pair b new p q)
  pub inputs : end_vertices h.inputs ≡ end_vertices g.inputs
  pub outputs : end_vertices h.outputs ≡ end_vertices (move_end b new g.outputs)
