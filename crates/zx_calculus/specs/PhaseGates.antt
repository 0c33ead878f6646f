-- Graphs of one phase gate.
use Rattle.std.specs.Prelude.{ℕ, [], ◌∷◌}
use Rattle.zx_calculus.specs.Graph.{XY, YZ, Graph, plain}
use Rattle.zx_calculus.specs.Worked.{vertex, edge, graph}

-- one spider, its input and its output
abbrev pub phase_graph : ℕ → Graph
phase_graph k = graph (vertex 0 XY k ∷ []) [] (plain 0 ∷ []) (plain 0 ∷ [])

-- a spider with a gadget on it
abbrev pub gadget_graph : ℕ → Graph
gadget_graph k = graph (vertex 0 XY 0 ∷ vertex 1 YZ k ∷ []) (edge 0 1 ∷ []) (plain 0 ∷ []) (plain 0 ∷ [])
