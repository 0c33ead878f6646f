-- One after the other.
use Rattle.std.proofs.Common.{ap, refl, reverse}
use Rattle.zx_extract.specs.Internal.Frontiers.{remainder_of}
use Rattle.zx_extract.proofs.Whole.{taken_apart}
use Rattle.zx_extract.proofs.frontier.Frontier.take_all.Goals as goal

pub returns : goal.returns
returns c =
    let start = c.args.self.now in
    taken_apart (remainder_of start) (remainder_of c.take_marks.new.self) (remainder_of c.settle_all.new.self)
    (remainder_of c.take_vertices.new.self) (remainder_of c.uncross.new.self) (ap reverse c.requires.none) c.requires.ends
    c.in_ok-take_marks.ensures.leads c.in_ok-settle_all.ensures.leads c.in_ok-doublings.ensures.taken
    c.in_ok-doublings.ensures.all c.in_ok-uncross.ensures.leads c.in_ok-uncross.ensures.formed
    start.graph.graph refl c.in_ok-uncross.ensures.graph
