-- By the test of each vertex.
use Rattle.zx_calculus.proofs.Gadgets.{odd-fuse_twin, even-fuse_twin, planes-fuse_twin}
use Rattle.zx_calculus.proofs.counts.counts_after_fusing_twins.Goals as goal

pub returns : goal.returns
returns c g u v h w s = record { odd_phases = odd-fuse_twin g u v h w s; even_interior = even-fuse_twin g u v h w s; not_XY = planes-fuse_twin g u v h w s }
