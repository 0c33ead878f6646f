-- A gate that is written out is three, one after the other.
use Rattle.std.proofs.Common.{[], ◌∷◌, subst, length, arith}
use Rattle.std.proofs.lemmas.Result.{on_ok_weaker}
use Rattle.zx_model.specs.Phase.{half_turn}
use Rattle.zx_gates.specs.declared.gate.Gate.TheVariants.{H, Phase, Cz}
use Rattle.zx_gates.specs.Circuit.{IsOnQubits}
use Rattle.zx_reduce.specs.Internal.Growing.{Gains, HasGrown}
use Rattle.zx_reduce.proofs.Growths.{gains_then, has_gained, on_gained}
use Rattle.zx_reduce.proofs.growing.Growing.add_gate.Goals as goal

pub toggle-requires-in-Cx-clause-grown : goal.toggle-requires-in-Cx-clause-grown
toggle-requires-in-Cx-clause-grown c =
    has_gained (H c.in-Cx.target ∷ []) c.args.self.now.engine.progress c.add_hadamard-in-Cx.new.self.engine.progress c.requires.grown c.in_ok-add_hadamard-in-Cx.ensures

pub toggle-requires-in-Cx-clause-on_qubits : goal.toggle-requires-in-Cx-clause-on_qubits
toggle-requires-in-Cx-clause-on_qubits c =
    on_gained (H c.in-Cx.target ∷ []) c.args.self.now.engine.progress c.add_hadamard-in-Cx.new.self.engine.progress c.requires.grown c.in_ok-add_hadamard-in-Cx.ensures
    (Cz c.in-Cx.control c.in-Cx.target) (subst (IsOnQubits (length c.args.self.now.engine.progress.ordered.graph.outputs)) c.in-Cx.is c.requires.on_qubits)

pub add_hadamard-requires-in-Cx-2-clause-grown : goal.add_hadamard-requires-in-Cx-2-clause-grown
add_hadamard-requires-in-Cx-2-clause-grown c =
    has_gained (Cz c.in-Cx.control c.in-Cx.target ∷ []) c.add_hadamard-in-Cx.new.self.engine.progress c.toggle-in-Cx.new.self
    (has_gained (H c.in-Cx.target ∷ []) c.args.self.now.engine.progress c.add_hadamard-in-Cx.new.self.engine.progress c.requires.grown c.in_ok-add_hadamard-in-Cx.ensures)
    c.in_ok-toggle-in-Cx.ensures

pub add_hadamard-requires-in-Cx-2-clause-on_qubits : goal.add_hadamard-requires-in-Cx-2-clause-on_qubits
add_hadamard-requires-in-Cx-2-clause-on_qubits c =
    let grown : HasGrown c.add_hadamard-in-Cx.new.self.engine.progress =
    has_gained (H c.in-Cx.target ∷ []) c.args.self.now.engine.progress c.add_hadamard-in-Cx.new.self.engine.progress c.requires.grown c.in_ok-add_hadamard-in-Cx.ensures in
    (on_gained (Cz c.in-Cx.control c.in-Cx.target ∷ []) c.add_hadamard-in-Cx.new.self.engine.progress c.toggle-in-Cx.new.self grown c.in_ok-toggle-in-Cx.ensures
    (Cz c.in-Cx.control c.in-Cx.target)
    (on_gained (H c.in-Cx.target ∷ []) c.args.self.now.engine.progress c.add_hadamard-in-Cx.new.self.engine.progress c.requires.grown c.in_ok-add_hadamard-in-Cx.ensures
    (Cz c.in-Cx.control c.in-Cx.target) (subst (IsOnQubits (length c.args.self.now.engine.progress.ordered.graph.outputs)) c.in-Cx.is c.requires.on_qubits))).1

pub add_phase-requires-in-Not-clause-grown : goal.add_phase-requires-in-Not-clause-grown
add_phase-requires-in-Not-clause-grown c =
    has_gained (H c.in-Not.q ∷ []) c.args.self.now.engine.progress c.add_hadamard-in-Not.new.self.engine.progress c.requires.grown c.in_ok-add_hadamard-in-Not.ensures

pub add_phase-requires-in-Not-clause-on_qubits : goal.add_phase-requires-in-Not-clause-on_qubits
add_phase-requires-in-Not-clause-on_qubits c = (
  on_gained (H c.in-Not.q ∷ []) c.args.self.now.engine.progress c.add_hadamard-in-Not.new.self.engine.progress c.requires.grown c.in_ok-add_hadamard-in-Not.ensures
      (H c.in-Not.q) (subst (IsOnQubits (length c.args.self.now.engine.progress.ordered.graph.outputs)) c.in-Not.is c.requires.on_qubits),
  λ none. let half = c.half_turn.ensures in omega (arith, none, half),
)

pub add_hadamard-requires-in-Not-2-clause-grown : goal.add_hadamard-requires-in-Not-2-clause-grown
add_hadamard-requires-in-Not-2-clause-grown c =
    has_gained (Phase c.in-Not.q c.half_turn.result ∷ []) c.add_hadamard-in-Not.new.self.engine.progress c.add_phase-in-Not.new.self
    (has_gained (H c.in-Not.q ∷ []) c.args.self.now.engine.progress c.add_hadamard-in-Not.new.self.engine.progress c.requires.grown c.in_ok-add_hadamard-in-Not.ensures)
    c.add_phase-in-Not.ensures

pub add_hadamard-requires-in-Not-2-clause-on_qubits : goal.add_hadamard-requires-in-Not-2-clause-on_qubits
add_hadamard-requires-in-Not-2-clause-on_qubits c =
    let grown : HasGrown c.add_hadamard-in-Not.new.self.engine.progress =
    has_gained (H c.in-Not.q ∷ []) c.args.self.now.engine.progress c.add_hadamard-in-Not.new.self.engine.progress c.requires.grown c.in_ok-add_hadamard-in-Not.ensures in
    on_gained (Phase c.in-Not.q c.half_turn.result ∷ []) c.add_hadamard-in-Not.new.self.engine.progress c.add_phase-in-Not.new.self grown c.add_phase-in-Not.ensures (H c.in-Not.q)
    (on_gained (H c.in-Not.q ∷ []) c.args.self.now.engine.progress c.add_hadamard-in-Not.new.self.engine.progress c.requires.grown c.in_ok-add_hadamard-in-Not.ensures
    (H c.in-Not.q) (subst (IsOnQubits (length c.args.self.now.engine.progress.ordered.graph.outputs)) c.in-Not.is c.requires.on_qubits))

pub returns-in-H : goal.returns-in-H
returns-in-H c = rw c.in-H.is c.add_hadamard.ensures

pub returns-in-Phase : goal.returns-in-Phase
returns-in-Phase c = rw c.in-Phase.is c.add_phase.ensures

pub returns-in-Cz : goal.returns-in-Cz
returns-in-Cz c = rw c.in-Cz.is c.toggle.ensures

pub returns-in_ok-toggle-in-Cx : goal.returns-in_ok-toggle-in-Cx
returns-in_ok-toggle-in-Cx c =
    let control = c.in-Cx.control in
    let target = c.in-Cx.target in
    rw c.in-Cx.is (on_ok_weaker c.add_hadamard-in-Cx-2.result
    (λ last. gains_then (H target ∷ []) (Cz control target ∷ H target ∷ []) c.args.self.now.engine.progress c.add_hadamard-in-Cx.new.self.engine.progress _ c.in_ok-add_hadamard-in-Cx.ensures
    (gains_then (Cz control target ∷ []) (H target ∷ []) c.add_hadamard-in-Cx.new.self.engine.progress _ _ c.in_ok-toggle-in-Cx.ensures last))
    c.add_hadamard-in-Cx-2.ensures)

pub returns-in_ok-add_hadamard-in-Not : goal.returns-in_ok-add_hadamard-in-Not
returns-in_ok-add_hadamard-in-Not c =
    let q = c.in-Not.q in
    let turned = subst (λ k. Gains (Phase q k ∷ []) c.add_hadamard-in-Not.new.self.engine.progress c.add_phase-in-Not.new.self) c.half_turn.ensures c.add_phase-in-Not.ensures in
    rw c.in-Not.is (on_ok_weaker c.add_hadamard-in-Not-2.result
    (λ last. gains_then (H q ∷ []) (Phase q half_turn ∷ H q ∷ []) c.args.self.now.engine.progress c.add_hadamard-in-Not.new.self.engine.progress _ c.in_ok-add_hadamard-in-Not.ensures
    (gains_then (Phase q half_turn ∷ []) (H q ∷ []) c.add_hadamard-in-Not.new.self.engine.progress c.add_phase-in-Not.new.self _ turned last))
    c.add_hadamard-in-Not-2.ensures)
