-- One circuit is made of the other.
use Rattle.zx_optimise.specs.Bounds.{most_root2_of_fewer}
use Rattle.zx_optimise.proofs.putting_in.with_fewer.Goals as goal

pub returns-in-Some : goal.returns-in-Some
returns-in-Some c = λ read is.
    c.joined.ensures.made most_root2_of_fewer read is (rw c.in-Some.is at c.in_ok-made.ensures)
