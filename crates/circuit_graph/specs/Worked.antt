-- Circuits and their graphs, written down by hand.
use Rattle.std.specs.Prelude.{◌+◌, List, [], ◌∷◌}
use Rattle.zx_model.specs.Phase.{quarter_turn, eighth_turn, opposite_phase}
use Rattle.zx_calculus.specs.Graph.{XY, Graph, plain}
use Rattle.zx_calculus.specs.Worked.{vertex, edge, graph}
use Rattle.gflow_laws.specs.Flow.{Correction}
use Rattle.zx_gates.specs.Circuit.{Circuit}
use Rattle.zx_gates.specs.declared.gate.Gate.TheVariants.{H, Phase, Cz, Cx}

-- a Bell pair: H, then Cx
abbrev pub bell_circuit : Circuit
bell_circuit = record { qubits = 2; gates = H 0 ∷ Cx 0 1 ∷ [] }

-- the first wire is a path of two spiders, the second one of three; the edge between the wires is that of Cz
abbrev pub bell_graph : Graph
bell_graph =
    graph (vertex 0 XY 0 ∷ vertex 1 XY 0 ∷ vertex 2 XY 0 ∷ vertex 3 XY 0 ∷ vertex 4 XY 0 ∷ [])
    (edge 0 2 ∷ edge 1 3 ∷ edge 2 3 ∷ edge 3 4 ∷ [])
    (plain 0 ∷ plain 1 ∷ []) (plain 2 ∷ plain 4 ∷ [])

-- the first wire leaves 0 for 2, then the second one leaves 1 for 3 and 3 for 4
abbrev pub bell_table : List Correction
bell_table =
    record { vertex = 0; members = 2 ∷ [] }
    ∷ record { vertex = 1; members = 3 ∷ [] }
    ∷ record { vertex = 3; members = 4 ∷ [] }
    ∷ []

-- Cz twice, with phases between that add up
abbrev pub double_cz : Circuit
double_cz = record {
  qubits = 2;
  gates = Cz 0 1 ∷ Phase 0 (quarter_turn + eighth_turn) ∷ Phase 0 (opposite_phase eighth_turn) ∷ Cz 1 0 ∷ [];
}

abbrev pub double_cz_graph : Graph
double_cz_graph =
    graph (vertex 0 XY quarter_turn ∷ vertex 1 XY 0 ∷ []) [] (plain 0 ∷ plain 1 ∷ []) (plain 0 ∷ plain 1 ∷ [])

-- H on one qubit
abbrev pub hadamard_circuit : Circuit
hadamard_circuit = record { qubits = 1; gates = H 0 ∷ [] }

-- a path of two spiders, from the input to the output
abbrev pub hadamard_graph : Graph
hadamard_graph = graph (vertex 0 XY 0 ∷ vertex 1 XY 0 ∷ []) (edge 0 1 ∷ []) (plain 0 ∷ []) (plain 1 ∷ [])
