-- What is made of a reduced graph.
use Rattle.std.specs.Prelude.{◌≤◌, ◌+◌, ◌*◌, length}
use Rattle.zx_model.specs.declared.scalar.Scalar.{Scalar}
use Rattle.zx_calculus.specs.Counts.{odd_phases, not_XY, XY_without_output}
use Rattle.zx_calculus.specs.Graph.{Graph}
use Rattle.zx_calculus.specs.Sum.{graph_sum}
use Rattle.zx_extract.specs.Extraction.{most_extracted_gates}
use Rattle.zx_gates.specs.Circuit.{Circuit, gate_limit}
use Rattle.zx_gates.specs.Passes.{Implements}
use Rattle.zx_peephole.specs.Tidy.{IsTidy}
use Rattle.open_graph.specs.OpenGraph.{most_vertices_in_memory}

-- The sum of the reduced graph is s times the map of the circuit, which is tidy, and has no more gates than extraction
-- gives.
pub record Extracts (h : Graph) (c : Circuit) (s : Scalar) : Type 0 where
  pub kept : Implements (length h.outputs) (graph_sum h) (odd_phases h) (2 * most_vertices_in_memory + gate_limit) c s
  pub few_gates : length c.gates ≤ most_extracted_gates (length h.outputs) (XY_without_output h) (not_XY h)
  pub tidy : IsTidy c.gates
