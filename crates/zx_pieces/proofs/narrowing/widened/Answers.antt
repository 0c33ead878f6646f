-- The gate is on its places.
use Rattle.zx_pieces.proofs.Places.{pushed_on}
use Rattle.zx_pieces.proofs.narrowing.widened.Goals as goal

pub push-requires : goal.push-requires
push-requires c =
    let small = c.args.small.now in
    let items = c.gates-gate-items in
    pushed_on c.args.qubits c.args.places.now small.gates items.result.now small.qubits c.loop-gate.gate-index c.gate-item.result c.widened_gate.result
    c.loop-gate.made.qubits c.requires.places c.requires.small items.ensures.valid.on_qubits items.ensures.value c.loop-gate-test.true c.gate-item.is
    c.widened_gate.ensures c.loop-gate.invariant.qubits
