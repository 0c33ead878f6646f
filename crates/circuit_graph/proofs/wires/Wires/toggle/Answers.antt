-- The graph alone changes.
use Rattle.std.proofs.Common.{refl}
use Rattle.std.proofs.lemmas.Result.{on_ok_weaker}
use Rattle.circuit_graph.specs.Internal.Wires.{graph_so_far}
use Rattle.circuit_graph.proofs.Gates.{gate_comes}
use Rattle.zx_gates.specs.declared.gate.Gate.TheVariants.{Cz}
use Rattle.circuit_graph.proofs.wires.Wires.toggle.Goals as goal

pub returns-clause-step : goal.returns-clause-step
returns-clause-step c = on_ok_weaker c.put_edge.result (λ peel. record { peel = peel; table = refl }) c.put_edge.ensures.put

pub returns-clause-ready : goal.returns-clause-ready
returns-clause-ready c =
    on_ok_weaker c.put_edge.result (λ step. (gate_comes (graph_so_far c.args.self.now) (Cz c.args.p c.args.q) _ c.requires.ready step).ready) (returns-clause-step c)
