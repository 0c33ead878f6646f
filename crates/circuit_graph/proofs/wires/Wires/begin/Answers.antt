-- The wires are ready for gates.
use Rattle.std.proofs.Common.{sym, subst}
use Rattle.zx_calculus.specs.Graph.{WellFormed}
use Rattle.circuit_graph.specs.Internal.Runs.{GraphSoFar, IsReady}
use Rattle.circuit_graph.proofs.Beginning.{begun_ready}
use Rattle.circuit_graph.proofs.wires.Wires.begin.Goals as goal

pub returns-clause-ready : goal.returns-clause-ready
returns-clause-ready c =
    subst (λ (s : GraphSoFar). IsReady s) (sym (λ j. record { graph = c.in_ok-graph.ensures.begun j; table = c.new.ensures j }))
    (begun_ready c.args.qubits (subst WellFormed c.in_ok-graph.ensures.begun c.in_ok-graph.ensures.well_formed))
