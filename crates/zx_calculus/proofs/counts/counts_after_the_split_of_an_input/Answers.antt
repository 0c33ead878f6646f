-- By the test of each vertex.
use Rattle.zx_calculus.proofs.Splits.{odd-split, even-split_input, planes-split}
use Rattle.zx_calculus.proofs.counts.counts_after_the_split_of_an_input.Goals as goal

pub returns : goal.returns
returns c g b new h w s = record { odd_phases = odd-split g h new s.vertices; even_interior = even-split_input g b new h w s; not_XY = planes-split g h new s.vertices }
