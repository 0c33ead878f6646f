-- By the test of each vertex.
use Rattle.zx_calculus.proofs.Complements.{odd-complement, even-complement, planes-complement}
use Rattle.zx_calculus.proofs.counts.counts_after_a_complement.Goals as goal

pub returns : goal.returns
returns c g u h w s = record { odd_phases = odd-complement g u h w s; even_interior = even-complement g u h w s; not_XY = planes-complement g u h w s }
