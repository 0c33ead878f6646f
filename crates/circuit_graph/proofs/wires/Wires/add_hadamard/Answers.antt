-- The old spider is corrected by the new one.
use Rattle.std.proofs.Common.{subst}
use Rattle.std.proofs.lemmas.Result.{on_ok_weaker}
use Rattle.circuit_laws.specs.Peeling.{HasPlainOutput}
use Rattle.circuit_graph.specs.Internal.Wires.{graph_so_far}
use Rattle.circuit_graph.proofs.Gates.{gate_comes}
use Rattle.circuit_graph.proofs.Calls.{here_uncorrected, spider_step}
use Rattle.zx_gates.specs.declared.gate.Gate.TheVariants.{H}
use Rattle.circuit_graph.proofs.wires.Wires.add_hadamard.Goals as goal

pub add-requires-clause-fresh : goal.add-requires-clause-fresh
add-requires-clause-fresh c =
    let put = c.in_ok-here.ensures.put in
    here_uncorrected (graph_so_far c.args.self.now) c.args.q c.in_ok-here.here c.requires.ready
    (subst (HasPlainOutput c.args.self.now.graph.graph c.args.q) put.here_is put.peel.output)

pub returns-clause-step : goal.returns-clause-step
returns-clause-step c =
    on_ok_weaker c.add.result
    (spider_step (graph_so_far c.args.self.now) c.args.q c.in_ok-here.here c.in_ok-here.next _ c.requires.ready c.in_ok-here.ensures.put) c.add.ensures.ok

pub returns-clause-ready : goal.returns-clause-ready
returns-clause-ready c =
    on_ok_weaker c.add.result (λ step. (gate_comes (graph_so_far c.args.self.now) (H c.args.q) _ c.requires.ready step).ready) (returns-clause-step c)
