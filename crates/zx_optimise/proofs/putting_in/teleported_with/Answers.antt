-- One circuit is made of the other.
use Rattle.std.proofs.Common.{◌*◌, arith}
use Rattle.zx_model.proofs.Scalars.{within_more}
use Rattle.zx_gates.specs.Circuit.{gate_limit}
use Rattle.zx_optimise.specs.Bounds.{most_root2_of_fewer}
use Rattle.zx_optimise.specs.Internal.Making.{most_root2_of_one}
use Rattle.zx_optimise.proofs.putting_in.teleported_with.Goals as goal

pub returns : goal.returns
returns c =
    c.joined.ensures.made most_root2_of_one c.args.list.now
    (record {
      qubits = rw c.in-Some.is at c.in_ok-longer.ensures.qubits;
      scaled = rw c.in-Some.is at c.in_ok-longer.ensures.scaled;
      small = within_more (2 * gate_limit) most_root2_of_fewer c.in-Some.longer.scalar (rw c.in-Some.is at c.in_ok-longer.ensures.small)
          (omega arith);
    })
    c.in_ok-made.ensures
