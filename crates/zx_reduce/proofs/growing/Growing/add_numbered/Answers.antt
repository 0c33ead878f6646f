-- The gate, and its phase where it is odd.
use Rattle.std.proofs.Common.{◌∙◌, sym, ap, subst, length, true≢false}
use Rattle.std.proofs.lemmas.Result.{on_ok_weaker}
use Rattle.zx_model.specs.Phase.{is_odd}
use Rattle.zx_calculus.proofs.Ids.{by_test}
use Rattle.zx_gates.specs.Circuit.{IsOnQubits, is_odd_phase}
use Rattle.zx_gates.specs.declared.gate.Gate.TheVariants.{Phase}
use Rattle.circuit_graph.specs.Translation.{by_hadamards}
use Rattle.zx_reduce.specs.Internal.Growing.{Gains, GainsNumbered}
use Rattle.zx_reduce.proofs.Growths.{has_gained, on_gained}
use Rattle.zx_reduce.proofs.Grouping.{numbered_odd, numbered_even, others_even}
use Rattle.zx_reduce.proofs.growing.Growing.add_numbered.Goals as goal

pub note-requires-clause-grown : goal.note-requires-clause-grown
note-requires-clause-grown c =
    has_gained (by_hadamards c.args.gate.now) c.args.self.now.engine.progress c.add_gate.new.self.engine.progress c.requires.grown c.in_ok-add_gate.ensures

pub note-requires-clause-on_qubits : goal.note-requires-clause-on_qubits
note-requires-clause-on_qubits c =
    (on_gained (by_hadamards c.args.gate.now) c.args.self.now.engine.progress c.add_gate.new.self.engine.progress c.requires.grown c.in_ok-add_gate.ensures
    (Phase c.in-Phase.q c.in-Phase.phase) (subst (IsOnQubits (length c.args.self.now.engine.progress.ordered.graph.outputs)) c.in-Phase.is c.requires.on_qubits)).0

pub returns-then-is_odd : goal.returns-then-is_odd
returns-then-is_odd c =
    let q = c.in-Phase.q in
    let k = c.in-Phase.phase in
    let before = c.args.self.now.engine.progress in
    let here = c.add_gate.new.self.engine.progress in
    on_ok_weaker c.note.result
    (λ notes. subst (λ gate. GainsNumbered c.args.number gate before c.note.new.self) (sym c.in-Phase.is)
    (numbered_odd c.args.number q k before here c.note.new.self (c.is_odd.ensures.0 c.if-is_odd.true)
    (on_gained (by_hadamards c.args.gate.now) before here c.requires.grown c.in_ok-add_gate.ensures
    (Phase q k) (subst (IsOnQubits (length before.ordered.graph.outputs)) c.in-Phase.is c.requires.on_qubits)).0
    (subst (λ gate. Gains (by_hadamards gate) before here) c.in-Phase.is c.in_ok-add_gate.ensures) notes))
    c.note.ensures

pub returns-else-is_odd : goal.returns-else-is_odd
returns-else-is_odd c =
    numbered_even c.args.number c.args.gate.now c.args.self.now.engine.progress c.add_gate.new.self.engine.progress
    (ap is_odd_phase c.in-Phase.is
    ∙ by_test (is_odd c.in-Phase.phase) (λ t. absurd (true≢false (sym (c.is_odd.ensures.1 t) ∙ c.if-is_odd.false))) (λ f. f))
    c.in_ok-add_gate.ensures

pub returns-in-H : goal.returns-in-H
returns-in-H c =
    numbered_even c.args.number c.args.gate.now c.args.self.now.engine.progress c.add_gate.new.self.engine.progress (others_even c.args.gate.now c.in-H.is) c.in_ok-add_gate.ensures

pub returns-in-H-2 : goal.returns-in-H-2
returns-in-H-2 c =
    numbered_even c.args.number c.args.gate.now c.args.self.now.engine.progress c.add_gate.new.self.engine.progress (others_even c.args.gate.now c.in-H.is) c.in_ok-add_gate.ensures

pub returns-in-H-3 : goal.returns-in-H-3
returns-in-H-3 c =
    numbered_even c.args.number c.args.gate.now c.args.self.now.engine.progress c.add_gate.new.self.engine.progress (others_even c.args.gate.now c.in-H.is) c.in_ok-add_gate.ensures

pub returns-in-H-4 : goal.returns-in-H-4
returns-in-H-4 c =
    numbered_even c.args.number c.args.gate.now c.args.self.now.engine.progress c.add_gate.new.self.engine.progress (others_even c.args.gate.now c.in-H.is) c.in_ok-add_gate.ensures
