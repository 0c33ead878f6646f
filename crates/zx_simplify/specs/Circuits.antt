-- What simplification of its graph makes of a circuit.
-- Kissinger and van de Wetering (arXiv 1903.10477, 2020), on simplification as optimisation.
use Rattle.std.specs.Prelude.{◌≡◌, ◌≤◌, List, length}
use Rattle.zx_model.specs.Proportional.{Proportional}
use Rattle.zx_model.specs.declared.scalar.Scalar.{Scalar}
use Rattle.zx_calculus.specs.Counts.{odd_phases}
use Rattle.zx_calculus.specs.Graph.{Graph, WellFormed}
use Rattle.zx_calculus.specs.Reduced.{IsReduced}
use Rattle.zx_calculus.specs.Steps.{Step, IsRun}
use Rattle.zx_calculus.specs.StepScalars.{KeepsMap}
use Rattle.zx_calculus.specs.Sum.{graph_sum}
use Rattle.zx_gates.specs.Circuit.{Circuit, gate_odd_phases}
use Rattle.zx_gates.specs.Maps.{amp}
use Rattle.zx_gates.specs.Passes.{Implements, Preserves}
use Rattle.zx_peephole.specs.Tidy.{IsTidy}
use Rattle.circuit_graph.specs.Translation.{translated}
use Rattle.zx_extract.specs.Simplified.{gate_bound}
use Rattle.zx_simplify.specs.Scaling.{most_circuit_root2, most_simplified_root2}

-- Rewrites lead from the read circuit's graph to a reduced one, and the circuit that is made of that has its map, no
-- more odd phases, and few gates for its qubits and the graph's odd phases. The read circuit's map is exactly s times
-- its own.
pub record IsSimplified (read made : Circuit) (s : Scalar) : Type 0 where
  pub steps : List Step
  pub end : Graph
  pub run : IsRun (translated read) steps end
  pub reduced : IsReduced end
  pub kept : Preserves most_circuit_root2 read made s
  pub same_map : Proportional read.qubits read.qubits (graph_sum end) (amp made.gates)
  pub odd : gate_odd_phases made.gates ≤ odd_phases end
  pub fewer : odd_phases end ≤ odd_phases (translated read)
  pub read_odd : odd_phases (translated read) ≤ gate_odd_phases read.gates
  pub few_gates : length made.gates ≤ gate_bound read.qubits (odd_phases (translated read))
  pub tidy : IsTidy made.gates

-- Steps lead from a graph to the reduced graph `end`, with a proportional sum, as many ends and no more odd phases. The
-- circuit that is made of that has no more odd phases, and few gates for its qubits and the graph's odd phases; the
-- graph's sum is s times its map.
pub record SimplifiesTo (g : Graph) (steps : List Step) (end : Graph) (made : Circuit) (s : Scalar) : Type 0 where
  pub run : IsRun g steps end
  pub reduced : IsReduced end
  pub well_formed : WellFormed end
  pub reduced_map : KeepsMap g end
  pub inputs : length end.inputs ≡ length g.inputs
  pub outputs : length end.outputs ≡ length g.outputs
  pub kept : Implements (length g.outputs) (graph_sum g) (odd_phases g) most_simplified_root2 made s
  pub odd : gate_odd_phases made.gates ≤ odd_phases end
  pub fewer : odd_phases end ≤ odd_phases g
  pub few_gates : length made.gates ≤ gate_bound (length g.outputs) (odd_phases g)
  pub tidy : IsTidy made.gates

-- some steps lead to such a graph
pub record IsSimplifiedGraph (g : Graph) (made : Circuit) (s : Scalar) : Type 0 where
  pub steps : List Step
  pub end : Graph
  pub simplifies : SimplifiesTo g steps end made s
