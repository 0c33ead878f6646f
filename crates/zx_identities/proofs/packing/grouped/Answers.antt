-- One group more.
use Rattle.std.proofs.Common.{arith}
use Rattle.zx_identities.proofs.PackingLemmas.{groups_more}
use Rattle.zx_identities.proofs.packing.grouped.Goals as goal

pub loop-start-preserved : goal.loop-start-preserved
loop-start-preserved c = record {
  within = omega (arith, c.min-end.ensures);
  all = groups_more c.args.bits c.args.terms.now c.loop-start.groups.items c.group_of.result c.push.new.self.items c.loop-start.start c.min-end.result
      (omega (arith, c.min-end.ensures)) c.group_of.ensures c.in_ok-push.ensures.items c.loop-start.invariant.all;
}
