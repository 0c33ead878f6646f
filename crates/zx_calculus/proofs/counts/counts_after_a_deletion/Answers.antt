-- By the test of each vertex.
use Rattle.zx_calculus.proofs.Deletions.{odd-delete, even-delete, planes-delete}
use Rattle.zx_calculus.proofs.counts.counts_after_a_deletion.Goals as goal

pub returns : goal.returns
returns c g u h w s = record { odd_phases = odd-delete g u h w s; even_interior = even-delete g u h w s; not_XY = planes-delete g u h w s }
