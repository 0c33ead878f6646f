-- What clauses see of a translation under way.
use Rattle.circuit_graph.specs.declared.wires.Wires.{Wires}
use Rattle.circuit_graph.specs.Internal.Runs.{GraphSoFar}

abbrev pub graph_so_far : Wires → GraphSoFar
graph_so_far w = record { graph = w.graph.graph; table = w.table.table }
