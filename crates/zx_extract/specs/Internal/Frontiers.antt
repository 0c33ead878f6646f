-- What clauses see of a graph under extraction in memory.
use Rattle.std.specs.Prelude.{◌≡◌, ◌≢◌, ◌≤◌, ℕ, [], length, reverse}
use Rattle.zx_calculus.specs.Graph.{XZ, IsVertex, plane_of}
use Rattle.gflow_laws.specs.Flow.{IsFlow}
use Rattle.zx_gates.specs.Circuit.{most_qubits}
use Rattle.zx_extract.specs.declared.frontier.Frontier.{Frontier}
use Rattle.zx_extract.specs.Internal.Leading.{Remainder}

-- gates are kept with the last one first
abbrev pub remainder_of : Frontier → Remainder
remainder_of f = record { graph = f.graph.graph; table = f.flow.flow; gates = reverse f.gates.items }

-- a graph with a flow, as a circuit can be taken off, of which nothing was taken yet
pub record IsUntouched (f : Frontier) : Type 0 where
  pub flow : IsFlow f.graph.graph f.flow.flow
  pub planes : (v : ℕ) → IsVertex f.graph.graph v → plane_of f.graph.graph v ≢ XZ
  pub ends : length f.graph.graph.inputs ≡ length f.graph.graph.outputs
  pub few : length f.graph.graph.outputs ≤ most_qubits
  pub none : f.gates.items ≡ []
