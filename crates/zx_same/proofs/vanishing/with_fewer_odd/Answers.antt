-- Gates that are the identity keep the map, and so does simplification.
use Rattle.zx_same.proofs.OneMaps.{one_map_scaled, one_map_trans}
use Rattle.zx_same.proofs.vanishing.with_fewer_odd.Goals as goal

pub returns-then-counts : goal.returns-then-counts
returns-then-counts c =
    let circuit = c.args.circuit.now in
    let longer = c.in-Some-2.longer in
    let made = c.in_ok-made.made in
    let simplified = c.in_ok-made.ensures.kept in
    one_map_trans circuit longer.gates made.gates
    (one_map_scaled circuit longer.gates longer.scalar (rw c.in-Some-2.is at c.in_ok-longer.ensures.qubits) (rw c.in-Some-2.is at c.in_ok-longer.ensures.scaled))
    (one_map_scaled longer.gates made.gates made.scalar simplified.qubits simplified.scaled)
