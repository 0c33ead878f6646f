-- Gates are equal where their kinds, qubits and phases are.
use Rattle.zx_same.proofs.GateEquality.{gates-Decides}
use Rattle.zx_same.proofs.comparing.are_equal.Goals as goal

pub returns : goal.returns
returns c = gates-Decides c.args.a.now c.args.b.now c.eq.result c.eq.ensures
