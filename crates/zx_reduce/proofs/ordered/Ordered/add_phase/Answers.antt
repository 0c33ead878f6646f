-- The gate that the new phase is.
use Rattle.std.proofs.Common.{◌≡◌, subst}
use Rattle.zx_gates.specs.declared.gate.Gate.TheVariants.{Phase}
use Rattle.circuit_graph.proofs.Graphs.{phase_is}
use Rattle.growing_laws.specs.Growing.{placed}
use Rattle.zx_reduce.specs.Internal.Ordering.{Ordered}
use Rattle.zx_reduce.proofs.GatesOrdered.{plain_there, on_qubits_there, gate_inside}
use Rattle.zx_reduce.proofs.ordered.Ordered.add_phase.Goals as goal

pub put_phase-requires-clause-plain : goal.put_phase-requires-clause-plain
put_phase-requires-clause-plain c = plain_there _ c.args.self.now c.self.view_is c.requires.plain

pub put_phase-requires-clause-on_qubits : goal.put_phase-requires-clause-on_qubits
put_phase-requires-clause-on_qubits c = on_qubits_there _ c.args.self.now c.self.view_is c.args.q c.requires.on_qubits

pub returns-clause-gate : goal.returns-clause-gate
returns-clause-gate c =
    subst (λ (o : Ordered). c.put_phase.new.g.graph ≡ placed 0 o.graph (Phase c.args.q c.args.phase)) c.self.view_is
    (phase_is c.self.inside.graph.graph c.args.q c.args.phase c.put_phase.new.g.graph c.put_phase.ensures)

pub returns-clause-ordered : goal.returns-clause-ordered
returns-clause-ordered c =
    gate_inside _ c.args.self.now c.self.view_is (Phase c.args.q c.args.phase) tt c.put_phase.new.g.graph c.requires.plain
    (c.requires.on_qubits, c.requires.turns) (returns-clause-gate c)
