-- One vertex more has a rank above all others.
use Rattle.std.proofs.Common.{sym, subst, take, add-one}
use Rattle.flow_find.proofs.Orders.{is_place, fresh_there}
use Rattle.zx_reduce.specs.Internal.Guiding.{AreRanked}
use Rattle.zx_reduce.proofs.Ranking.{ranked_last}
use Rattle.zx_reduce.proofs.ranks.Ranks.of_order.Goals as goal

pub loop-v-preserved : goal.loop-v-preserved
loop-v-preserved c =
    rw add-one
    (subst (λ vs. AreRanked vs c.add_last.new.self)
    (sym (is_place c.args.order.now c.loop-v.v-index c.v-item.result c.loop-v-test.true c.v-item.is).up_to)
    (ranked_last (take c.loop-v.v-index c.args.order.now) c.v-item.result c.loop-v.made c.add_last.new.self
    (fresh_there c.args.order.now c.loop-v.v-index c.v-item.result c.requires c.loop-v-test.true c.v-item.is)
    c.loop-v.invariant c.in_ok-add_last.ensures.ranks c.in_ok-add_last.ensures.low c.in_ok-add_last.ensures.high))
