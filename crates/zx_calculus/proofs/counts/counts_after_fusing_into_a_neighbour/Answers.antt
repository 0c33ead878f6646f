-- By the test of each vertex.
use Rattle.zx_calculus.proofs.Gadgets.{odd-fuse_into, even-fuse_into, planes-fuse_into}
use Rattle.zx_calculus.proofs.counts.counts_after_fusing_into_a_neighbour.Goals as goal

pub returns : goal.returns
returns c g u h w s = record { odd_phases = odd-fuse_into g u h w s; even_interior = even-fuse_into g u h w s; not_XY = planes-fuse_into g u h w s }
