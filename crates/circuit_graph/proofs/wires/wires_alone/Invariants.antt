-- The wires so far.
use Rattle.std.proofs.Common.{◌≡◌}
use Rattle.zx_calculus.specs.Graph.{WellFormed}
use Rattle.circuit_graph.specs.Translation.{wires}
use Rattle.circuit_graph.proofs.wires.wires_alone.Given as goal

abbrev pub invariant-loop : goal.invariant-loop
invariant-loop l = record {
  begun : l.graph.graph ≡ wires l.counter;
  well_formed : WellFormed l.graph.graph;
}
