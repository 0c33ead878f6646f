-- One circuit is made of the other.
use Rattle.zx_optimise.specs.Bounds.{most_root2_of_fewer}
use Rattle.zx_optimise.proofs.rounds.long_end.Goals as goal

pub returns : goal.returns
returns c =
    c.joined.ensures.made most_root2_of_fewer c.args.list.now (rw c.in-Some.is at c.in_ok-made.ensures) c.in_ok-more.ensures
