-- The scalars multiply.
use Rattle.std.proofs.Common.{arith}
use Rattle.zx_gates.proofs.Passing.{implements_preserved}
use Rattle.zx_optimise.specs.Internal.Making.{most_root2_of_one}
use Rattle.zx_optimise.proofs.Made.{made_by_pass}
use Rattle.zx_optimise.proofs.putting_in.teleported.Goals as goal

pub returns : goal.returns
returns c =
    made_by_pass most_root2_of_one c.args.list.now c.tidy.new.g c.times-scalar.result
    (implements_preserved c.in_ok-found.ensures.kept c.tidy.ensures.kept c.times-scalar.ensures (omega arith))
