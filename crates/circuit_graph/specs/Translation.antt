-- The open graph of a circuit: each wire is a path of spiders, which its Hadamard gates join.
-- Duncan, Kissinger, Perdrix and van de Wetering, "Graph-theoretic simplification of quantum circuits with the
-- ZX-calculus" (Quantum 4, 279, 2020), on graph-like diagrams.
use Rattle.std.specs.Prelude.{◌≡◌, ◌<◌, ◌≤◌, true, ℕ, ◌+◌, ◌*◌, pos, neg_ℤ, List, [], ◌∷◌, ◌++◌}
use Rattle.std.specs.Prelude.{length, map, get_or, slice_set, Option, Some, None}
use Rattle.std.specs.List.{count_by, flat_map, fold, range_with_len}
use Rattle.zx_model.specs.Bits.{xor}
use Rattle.zx_model.specs.Phase.{half_turn}
use Rattle.zx_model.specs.Scalar.{IsScaled}
use Rattle.zx_model.specs.declared.scalar.Scalar.{Scalar}
use Rattle.zx_calculus.specs.Counts.{odd_phases}
use Rattle.zx_calculus.specs.Graph.{XY, Graph, IsVertex, WellFormed, joined, end_vertices, plane_of, with_kinds, plain}
use Rattle.zx_calculus.specs.Sum.{graph_sum}
use Rattle.zx_calculus.specs.Splits.{spider_of_phase_zero, split_vertices, split_edges}
use Rattle.zx_calculus.specs.Edits.{is_pair}
use Rattle.zx_calculus.specs.Gadgets.{fuse_kind}
use Rattle.zx_calculus.specs.Adjacency.{adjacent_graph}
use Rattle.gflow_laws.specs.Flow.{Correction, IsFlow, SameSets}
use Rattle.zx_gates.specs.Circuit.{Circuit, gate_odd_phases}
use Rattle.zx_gates.specs.Counting.{is_h, is_cx, is_not}
use Rattle.zx_gates.specs.Maps.{amp}
use Rattle.zx_gates.specs.declared.gate.Gate.{Gate}
use Rattle.zx_gates.specs.declared.gate.Gate.TheVariants.{H, Phase, Cz, Cx, Not}
use Rattle.circuit_laws.specs.Peeling.{are_plain}

-- Cx as H, Cz and H, and Not as H, a half turn and H
abbrev pub by_hadamards : Gate → List Gate
by_hadamards (Cx control target) = H target ∷ Cz control target ∷ H target ∷ []
by_hadamards (Not q) = H q ∷ Phase q half_turn ∷ H q ∷ []
by_hadamards other = other ∷ []

-- the gates with each Cx and Not written out
abbrev pub written_out : List Gate → List Gate
written_out gates = flat_map by_hadamards gates

-- how many spiders the graph of a circuit has: one for each qubit and each H, and two for each Cx and Not
abbrev pub spiders_of : Circuit → ℕ
spiders_of c = c.qubits + count_by is_h c.gates + 2 * count_by is_cx c.gates + 2 * count_by is_not c.gates

-- how many gates are written out by others
abbrev pub written_count : List Gate → ℕ
written_count gates = count_by is_cx gates + count_by is_not gates

-- the scalar that the circuit's map is times the sum of its graph: half for each of these, as H, Cz and H are two
-- times Cx, and likewise for Not
abbrev pub map_scalar : List Gate → Scalar
map_scalar gates = record { root2 = neg_ℤ (pos (2 * written_count gates)); turn = 0 }

-- the last spider of a wire, which holds its output
abbrev pub last_spider : Graph → ℕ → ℕ
last_spider g q = get_or (end_vertices g.outputs) q 0

-- n wires alone: a spider of phase 0 for each, with both ends
abbrev pub wires : ℕ → Graph
wires n = record {
  vertices = map spider_of_phase_zero (range_with_len 0 n);
  edges = [];
  inputs = map plain (range_with_len 0 n);
  outputs = map plain (range_with_len 0 n);
}

-- H: an edge joins the last spider to a new one of phase 0, which is the last one from there on
abbrev pub with_spider : ℕ → ℕ → Graph → Graph
with_spider new q g = record g {
  vertices = split_vertices g new;
  edges = split_edges g (last_spider g q) new;
  outputs = slice_set g.outputs q (plain new);
}

-- a phase is added to the last spider
abbrev pub with_phase : ℕ → ℕ → Graph → Graph
with_phase q k g = record g { vertices = with_kinds (fuse_kind (last_spider g q) k) g.vertices }

-- Cz: an edge between the last spiders comes where there is none, and goes where there is one
abbrev pub with_toggle : ℕ → ℕ → Graph → Graph
with_toggle p q g =
    adjacent_graph g g.vertices (λ v w. xor (joined g.edges v w) (is_pair (last_spider g p) (last_spider g q) v w))

-- a gate where Cx and Not are written out; the id of a new spider is the number of those before
abbrev pub with_gate : Graph → Gate → Graph
with_gate g (H q) = with_spider (length g.vertices) q g
with_gate g (Phase q k) = with_phase q k g
with_gate g (Cz p q) = with_toggle p q g
with_gate g other = g

-- The graph of a circuit. Its spiders have the ids 0, 1, 2 and so on in the order of making, the first of each qubit
-- before all others.
abbrev pub translated : Circuit → Graph
translated c = fold with_gate (wires c.qubits) (written_out c.gates)

-- With H the wire leaves its last spider, which is corrected by the next one on the wire, the new one, alone.
abbrev pub corrected_by : Graph → Gate → List Correction
corrected_by g (H q) = record { vertex = last_spider g q; members = length g.vertices ∷ [] } ∷ []
corrected_by g other = []

-- the same of each gate, in the order of the gates, where these come after the graph
abbrev pub table_from : Graph → List Gate → List Correction
table_from g [] = []
table_from g (gate ∷ gates) = corrected_by g gate ++ table_from (with_gate g gate) gates

-- The flow of the graph of a circuit: the spiders stand in the order in which the wires leave them, and each is
-- corrected by the next one on its wire. Of the outputs, the last spiders of the wires, there is none.
-- Danos and Kashefi, "Determinism in the one-way model" (Phys. Rev. A 74, 052310, 2006), on such flows.
abbrev pub translated_table : Circuit → List Correction
translated_table c = table_from (wires c.qubits) (written_out c.gates)

-- the vertex to which a gate adds a phase: the last spider of its qubit, where it is a phase gate
abbrev pub phase_vertex : Graph → Gate → Option ℕ
phase_vertex g (Phase q k) = Some (last_spider g q)
phase_vertex g other = None

-- the same of each gate, where the gates come after the graph
abbrev pub places_from : Graph → List Gate → List (Option ℕ)
places_from g [] = []
places_from g (gate ∷ gates) = phase_vertex g gate ∷ places_from (fold with_gate g (by_hadamards gate)) gates

abbrev pub places : Circuit → List (Option ℕ)
places c = places_from (wires c.qubits) c.gates

-- the graph of a circuit and a flow of it, and what holds of them
pub record IsTranslation (c : Circuit) (g : Graph) (f : List Correction) : Type 0 where
  pub graph : g ≡ translated c
  pub well_formed : WellFormed g
  pub flow : IsFlow g f
  pub table : SameSets f (translated_table c)
  -- the circuit's map is so many times the sum of the graph
  pub scaled : IsScaled c.qubits c.qubits (amp c.gates) (map_scalar c.gates) (graph_sum g)
  -- all vertices are spiders, and their ids are 0, 1, 2 and so on
  pub spiders : length g.vertices ≡ spiders_of c
  pub ids : (v : ℕ) → IsVertex g v → v < length g.vertices
  pub planes : (v : ℕ) → IsVertex g v → plane_of g v ≡ XY
  pub odd : odd_phases g ≤ gate_odd_phases c.gates
  -- each qubit has an input and an output, with no Hadamard on them
  pub inputs : length g.inputs ≡ c.qubits
  pub outputs : length g.outputs ≡ c.qubits
  pub plain_inputs : are_plain g.inputs ≡ true
  pub plain_outputs : are_plain g.outputs ≡ true
