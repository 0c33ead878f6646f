-- The gate that the toggled edge is.
use Rattle.std.proofs.Common.{◌≡◌, subst}
use Rattle.std.proofs.lemmas.Result.{on_ok_weaker}
use Rattle.zx_gates.specs.declared.gate.Gate.TheVariants.{Cz}
use Rattle.circuit_graph.proofs.Graphs.{toggle_is}
use Rattle.growing_laws.specs.Growing.{placed}
use Rattle.zx_reduce.specs.Internal.Ordering.{Ordered}
use Rattle.zx_reduce.proofs.GatesOrdered.{plain_there, on_qubits_there, gate_inside}
use Rattle.zx_reduce.proofs.ordered.Ordered.toggle.Goals as goal

pub put_edge-requires-clause-plain : goal.put_edge-requires-clause-plain
put_edge-requires-clause-plain c = plain_there _ c.args.self.now c.self.view_is c.requires.plain

pub put_edge-requires-clause-p_on_qubits : goal.put_edge-requires-clause-p_on_qubits
put_edge-requires-clause-p_on_qubits c = on_qubits_there _ c.args.self.now c.self.view_is c.args.p c.requires.p_on_qubits

pub put_edge-requires-clause-q_on_qubits : goal.put_edge-requires-clause-q_on_qubits
put_edge-requires-clause-q_on_qubits c = on_qubits_there _ c.args.self.now c.self.view_is c.args.q c.requires.q_on_qubits

pub returns-clause-gate : goal.returns-clause-gate
returns-clause-gate c =
    on_ok_weaker c.put_edge.result (λ peel.
    subst (λ (o : Ordered). c.put_edge.new.g.graph ≡ placed 0 o.graph (Cz c.args.p c.args.q)) c.self.view_is
    (toggle_is c.self.inside.graph.graph c.args.p c.args.q c.put_edge.new.g.graph c.put_edge.ensures.valid peel))
    c.put_edge.ensures.put

pub returns-clause-ordered : goal.returns-clause-ordered
returns-clause-ordered c =
    on_ok_weaker c.put_edge.result
    (gate_inside _ c.args.self.now c.self.view_is (Cz c.args.p c.args.q) tt c.put_edge.new.g.graph c.requires.plain
    (c.requires.p_on_qubits, c.requires.q_on_qubits, c.requires.apart))
    (returns-clause-gate c)
