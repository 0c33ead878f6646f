-- One more edge.
use Rattle.std.proofs.Common.{arith}
use Rattle.zx_extract.specs.Internal.Frontiers.{remainder_of}
use Rattle.zx_extract.proofs.SettledOutputs.{edges_nothing, edges_next, apart_next}
use Rattle.zx_extract.proofs.frontier.Frontier.take_edges.Goals as goal

pub loop-r-init : goal.loop-r-init
loop-r-init c = record {
  settles = edges_nothing (remainder_of c.args.self.now) c.args.q c.requires.ready;
  apart = λ r within. absurd (omega arith);
}

pub loop-r-preserved : goal.loop-r-preserved
loop-r-preserved c = record {
  settles = edges_next (remainder_of c.args.self.now) c.args.q c.loop-r.r (remainder_of c.loop-r.self)
      (remainder_of c.take_edge.new.self) c.loop-r.invariant.settles c.in_ok-take_edge.ensures;
  apart = apart_next c.args.q c.loop-r.r (remainder_of c.loop-r.self)
      (remainder_of c.take_edge.new.self) c.in_ok-take_edge.ensures c.loop-r.invariant.apart;
}
