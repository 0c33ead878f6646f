-- By the test of each vertex.
use Rattle.zx_calculus.proofs.Gadgets.{odd-drop, even-drop, planes-drop}
use Rattle.zx_calculus.proofs.counts.counts_after_a_lone_gadget_went.Goals as goal

pub returns : goal.returns
returns c g u h w s = record { odd_phases = odd-drop g u h w s; even_interior = even-drop g u h w s; not_XY = planes-drop g u h w s }
