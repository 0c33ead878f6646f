-- One circuit is made of the other.
use Rattle.zx_pieces.specs.Scaling.{most_root2_of_passes}
use Rattle.zx_optimise.specs.Bounds.{most_root2_of_fewer}
use Rattle.zx_optimise.proofs.Made.{made_by_pass}
use Rattle.zx_optimise.proofs.finishing.finished.Goals as goal

pub returns-clause-made : goal.returns-clause-made
returns-clause-made c = λ read is.
    c.joined-2.ensures.made most_root2_of_passes read
    (c.in-Some.ensures.made most_root2_of_fewer read is c.in_ok-whole.ensures)
    (made_by_pass most_root2_of_passes c.in-Some.whole.gates c.in_ok-made.made.gates c.in_ok-made.made.scalar c.in_ok-made.ensures.kept)
