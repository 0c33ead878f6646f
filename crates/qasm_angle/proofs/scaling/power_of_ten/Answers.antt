use Rattle.std.proofs.Common.{arith}
use Rattle.qasm_angle.proofs.DecimalLemmas.{ten_pow_pos, ten_pow_mono}
use Rattle.qasm_angle.proofs.scaling.power_of_ten.Goals as goal

pub pow-requires : goal.pow-requires
pow-requires c = omega (arith, ten_pow_mono c.args.tens 38 c.requires)

pub returns-clause-positive : goal.returns-clause-positive
returns-clause-positive c = rw c.pow.ensures (ten_pow_pos c.args.tens)
