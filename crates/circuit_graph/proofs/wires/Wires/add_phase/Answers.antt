-- The graph alone changes.
use Rattle.std.proofs.Common.{refl}
use Rattle.circuit_graph.specs.Internal.Wires.{graph_so_far}
use Rattle.circuit_graph.proofs.Gates.{gate_comes}
use Rattle.zx_gates.specs.declared.gate.Gate.TheVariants.{Phase}
use Rattle.circuit_graph.proofs.wires.Wires.add_phase.Goals as goal

pub returns-clause-step : goal.returns-clause-step
returns-clause-step c = record { peel = c.put_phase.ensures; table = refl }

pub returns-clause-ready : goal.returns-clause-ready
returns-clause-ready c = (gate_comes (graph_so_far c.args.self.now) (Phase c.args.q c.args.phase) _ c.requires.ready (returns-clause-step c)).ready
