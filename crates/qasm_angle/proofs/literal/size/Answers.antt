use Rattle.std.proofs.Common.{◌-◌, ◌^◌}
use Rattle.qasm_angle.proofs.LiteralLemmas.{size-done}
use Rattle.qasm_angle.proofs.literal.size.Goals as goal

pub returns : goal.returns
returns c =
    size-done c.loop-b.size (2 ^ 64 - 1) c.args.exponent.now c.args.exponent.now c.loop-b.b-index c.loop-b.invariant.small c.loop-b-test.false c.loop-b.invariant.size
