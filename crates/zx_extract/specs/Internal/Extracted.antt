-- What gates are to the graph off which they were taken.
use Rattle.std.specs.Prelude.{◌≡◌, ◌≤◌, ℕ, ◌*◌, Bool, List, ◌++◌, length}
use Rattle.std.specs.List.{All}
use Rattle.zx_model.specs.Internal.Powers.{power_of_two}
use Rattle.zx_model.specs.Number.{mul}
use Rattle.zx_model.specs.declared.scalar.Scalar.{Scalar}
use Rattle.zx_calculus.specs.Graph.{Graph}
use Rattle.zx_calculus.specs.Sum.{graph_sum}
use Rattle.zx_calculus.specs.Counts.{odd_phases, not_XY, XY_without_output}
use Rattle.zx_gates.specs.Circuit.{Circuit, IsOnQubits, gate_odd_phases}
use Rattle.zx_gates.specs.Maps.{amp}
use Rattle.zx_gates.specs.Passes.{Implements}
use Rattle.zx_gates.specs.declared.gate.Gate.{Gate}
use Rattle.circuit_laws.specs.Gates.{hadamards_from}
use Rattle.zx_extract.specs.Extraction.{most_extracted_gates}
use Rattle.zx_extract.specs.Internal.Leading.{Remainder}

-- The graph's sum is the map of the gates times a power of two, with at most one factor for each vertex
-- that isn't XY: each phase gadget that stood on outputs alone doubles the sum.
pub record HasExactMap (doublings : ℕ) (g : Graph) (gates : List Gate) : Type 0 where
  pub few : doublings ≤ not_XY g
  pub equal : (x y : List Bool) → length x ≡ length g.inputs → length y ≡ length g.outputs →
      graph_sum g x y ≡ mul (power_of_two doublings) (amp gates x y)

-- the gates are the circuit of g, whose sum is doubled so often
pub record IsExtracted (doublings : ℕ) (g : Graph) (gates : List Gate) : Type 0 where
  pub exact : HasExactMap doublings g gates
  pub odd : gate_odd_phases gates ≤ odd_phases g
  pub few : length gates ≤ most_extracted_gates (length g.outputs) (XY_without_output g) (not_XY g)

-- all gates of g were taken off, but for the Hadamards of its inputs
pub record IsTakenApart (doublings : ℕ) (g : Graph) (s : Remainder) : Type 0 where
  pub extracted : IsExtracted doublings g (hadamards_from 0 s.graph.inputs ++ s.gates)
  pub on_qubits : All (IsOnQubits (length s.graph.inputs)) s.gates
  pub qubits : length s.graph.inputs ≡ length g.outputs

-- what is made of g is its circuit, with the scalar between the two
pub record IsCircuitOf (g : Graph) (made : Circuit) (s : Scalar) : Type 0 where
  pub kept : Implements (length g.outputs) (graph_sum g) (odd_phases g) (2 * not_XY g) made s
  pub few_gates : length made.gates ≤ most_extracted_gates (length g.outputs) (XY_without_output g) (not_XY g)
