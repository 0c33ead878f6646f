use Rattle.std.proofs.lemmas.Result.{on_ok_weaker}
use Rattle.qasm_names.proofs.BodyLemmas.{begun-calls}
use Rattle.qasm_names.proofs.CheckLemmas.{sound-from}
use Rattle.qasm_names.proofs.gate_in_progress.GateInProgress.declare_faultless.Goals as goal

pub returns : goal.returns
returns c = on_ok_weaker c.declare_gate.result
    (λ declares form scope b r f.
    declares scope form r b.same_name b.same_angles b.same_qubits (begun-calls c.args.names.now c.args.self form scope b r f.right) (sound-from scope form f.right) f.fresh)
    c.declare_gate.ensures
