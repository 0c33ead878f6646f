-- One vertex more, which isn't there yet.
use Rattle.std.proofs.Common.{◌∙◌, sym, ap, add-one, [], ◌∷◌, ◌++◌}
use Rattle.zx_model.specs.Bits.{member}
use Rattle.gflow_laws.proofs.Tables.{order_of-append}
use Rattle.flow_find.proofs.Orders.{is_place, fresh_there}
use Rattle.flow_find.proofs.along.table_of.Goals as goal

pub add-requires-clause-fresh : goal.add-requires-clause-fresh
add-requires-clause-fresh c =
    ap (member c.v-item.result) c.loop-v.invariant ∙ fresh_there c.args.order.now c.loop-v.v-index c.v-item.result c.requires c.loop-v-test.true c.v-item.is

pub loop-v-preserved : goal.loop-v-preserved
loop-v-preserved c =
    rw add-one (c.in_ok-add.ensures.ok.order ∙ order_of-append c.loop-v.table.table _ ∙ ap (λ l. l ++ c.v-item.result ∷ []) c.loop-v.invariant
    ∙ sym (is_place c.args.order.now c.loop-v.v-index c.v-item.result c.loop-v-test.true c.v-item.is).up_to)
