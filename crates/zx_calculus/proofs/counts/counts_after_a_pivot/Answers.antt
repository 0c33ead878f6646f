-- By the test of each vertex.
use Rattle.zx_calculus.proofs.Pivots.{odd-pivot, even-pivot, planes-pivot}
use Rattle.zx_calculus.proofs.counts.counts_after_a_pivot.Goals as goal

pub returns : goal.returns
returns c g u v h w s = record { odd_phases = odd-pivot g u v h w s; even_interior = even-pivot g u v h w s; not_XY = planes-pivot g u v h w s }
