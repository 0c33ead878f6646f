-- What the graph of a circuit is simplified to.
use Rattle.std.specs.Prelude.{◌≡◌, ◌≤◌, ◌<◌, ℕ, ◌^◌, false, List, length, map}
use Rattle.zx_model.specs.Proportional.{Proportional}
use Rattle.zx_model.specs.declared.scalar.Scalar.{Scalar}
use Rattle.gflow_laws.specs.Flow.{Correction}
use Rattle.zx_reduce.specs.Grown.{GrowsTo}
use Rattle.zx_same.specs.Bare.{is_bare}
use Rattle.zx_simplify.specs.Extracting.{Extracts}
use Rattle.zx_calculus.specs.Counts.{odd_phases}
use Rattle.zx_calculus.specs.Graph.{Graph, WellFormed}
use Rattle.zx_calculus.specs.Reduced.{IsReduced}
use Rattle.zx_calculus.specs.Steps.{IsRun}
use Rattle.zx_calculus.specs.Sum.{graph_sum}
use Rattle.zx_gates.specs.Circuit.{Circuit, gate_odd_phases}
use Rattle.zx_gates.specs.Maps.{amp}
use Rattle.zx_gates.specs.Passes.{Preserves}
use Rattle.zx_peephole.specs.Tidy.{IsTidy}
use Rattle.graph_rewrites.specs.Steps.{step_named}
use Rattle.zx_extract.specs.Simplified.{gate_bound}
use Rattle.circuit_graph.specs.Translation.{translated}
use Rattle.zx_simplify.specs.declared.simplifying.Simplified.{Simplified}

-- the greatest exponent of the root of two, in size, in the scalar of a simplified circuit
abbrev pub most_left_root2 : ℕ
most_left_root2 = 2 ^ 55

-- Steps lead from the circuit's graph to the reduced one, whose sum is proportional to the circuit's map. What is left
-- is made by a pass over the circuit; it is tidy, and has few gates.
pub record Simplifies (circuit : Circuit) (made : Simplified) : Type 0 where
  pub run : IsRun (translated circuit) (map step_named made.trace.steps) made.reduced.graph
  pub reduced : IsReduced made.reduced.graph
  pub well_formed : WellFormed made.reduced.graph
  pub inputs : length made.reduced.graph.inputs ≡ circuit.qubits
  pub outputs : length made.reduced.graph.outputs ≡ circuit.qubits
  pub fewer : odd_phases made.reduced.graph ≤ gate_odd_phases circuit.gates
  pub reduced_map : Proportional circuit.qubits circuit.qubits (amp circuit.gates) (graph_sum made.reduced.graph)
  pub kept : Preserves most_left_root2 circuit made.gates made.scalar
  pub tidy : IsTidy made.gates.gates
  pub few : length made.gates.gates ≤ gate_bound circuit.qubits (gate_odd_phases circuit.gates)

-- the reduced graph that grows of the circuit isn't just wires, and what is left is extracted from it and has gates
pub record Leaves (circuit left : Circuit) : Type 0 where
  pub graph : Graph
  pub table : List Correction
  pub times : Scalar
  pub grown : GrowsTo circuit graph table times
  pub not_bare : is_bare graph ≡ false
  pub scalar : Scalar
  pub extracted : Extracts graph left scalar
  pub some : 0 < length left.gates
