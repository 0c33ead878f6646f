-- One more output.
use Rattle.std.proofs.Common.{◌≡◌, length, arith}
use Rattle.zx_extract.specs.Internal.Frontiers.{remainder_of}
use Rattle.zx_extract.proofs.SettledOutputs.{settled_none, settled_next, settled_all, all_nothing, all_next, all_leads}
use Rattle.zx_extract.proofs.frontier.Frontier.settle_all.Goals as goal

pub loop-q-init : goal.loop-q-init
loop-q-init c = record {
  leads = all_nothing (remainder_of c.args.self.now);
  ready = c.requires;
  settled = settled_none c.args.self.now.graph.graph;
}

pub loop-q-preserved : goal.loop-q-preserved
loop-q-preserved c = record {
  leads = all_next (remainder_of c.args.self.now) c.loop-q.q (remainder_of c.loop-q.self)
      (remainder_of c.settle.new.self) c.loop-q.invariant.leads c.in_ok-settle.ensures;
  ready = c.in_ok-settle.ensures.settles.ready;
  settled = settled_next (remainder_of c.loop-q.self) c.loop-q.q
      (remainder_of c.settle.new.self) c.loop-q.invariant.settled c.in_ok-settle.ensures;
}

pub returns-clause-leads : goal.returns-clause-leads
returns-clause-leads c = all_leads (remainder_of c.args.self.now) c.loop-q.q (length c.args.self.now.graph.graph.outputs)
    (remainder_of c.loop-q.self) (omega arith) c.loop-q.invariant.leads

pub returns-clause-frontier : goal.returns-clause-frontier
returns-clause-frontier c =
    let as_many : length c.loop-q.self.graph.graph.outputs ≡ length c.args.self.now.graph.graph.outputs =
    c.loop-q.invariant.leads.2.outputs in
    settled_all c.loop-q.self.graph.graph c.loop-q.q (omega arith) c.loop-q.invariant.settled
