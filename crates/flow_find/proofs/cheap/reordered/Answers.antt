-- One vertex more, with its set.
use Rattle.std.proofs.Common.{◌∙◌, sym, ap, subst, add-one, ℕ, List, [], ◌∷◌, ◌++◌}
use Rattle.zx_model.specs.Bits.{member}
use Rattle.zx_calculus.specs.Graph.{Distinct}
use Rattle.zx_calculus.proofs.Ids.{Distinct-rising}
use Rattle.gflow_laws.proofs.Tables.{order_of-append}
use Rattle.flow_find.specs.Internal.Next.{HasSetsOf}
use Rattle.flow_find.proofs.Orders.{is_place, fresh_there}
use Rattle.flow_find.proofs.Choosing.{place_listed, set_more}
use Rattle.flow_find.proofs.cheap.reordered.Goals as goal

pub members_of-requires : goal.members_of-requires
members_of-requires c = c.requires.listed c.v-item.result (place_listed c.args.order.now c.loop-v.v-index c.v-item.result (is_place c.args.order.now c.loop-v.v-index c.v-item.result c.loop-v-test.true c.v-item.is))

pub add-requires-clause-fresh : goal.add-requires-clause-fresh
add-requires-clause-fresh c =
    ap (member c.v-item.result) c.loop-v.invariant.order ∙ fresh_there c.args.order.now c.loop-v.v-index c.v-item.result c.requires.once c.loop-v-test.true c.v-item.is

pub add-requires-clause-differ : goal.add-requires-clause-differ
add-requires-clause-differ c = subst Distinct (sym (c.deref.ensures.value ∙ c.in_ok-members.ensures.value)) (Distinct-rising _ c.members_of.ensures.rising)

pub loop-v-preserved : goal.loop-v-preserved
loop-v-preserved c =
    let place = is_place c.args.order.now c.loop-v.v-index c.v-item.result c.loop-v-test.true c.v-item.is in
    rw add-one (record {
      order = c.in_ok-add.ensures.ok.order ∙ order_of-append c.loop-v.new.table _ ∙ ap (λ l. l ++ c.v-item.result ∷ []) c.loop-v.invariant.order ∙ sym place.up_to;
      sets = subst (λ (vs : List ℕ). HasSetsOf c.args.table.now.table vs c.add.new.self.table) (sym place.up_to)
          (set_more c.args.table.now.table c.loop-v.new.table c.add.new.self.table _ c.v-item.result c.deref.result.now c.loop-v.invariant.order
          (fresh_there c.args.order.now c.loop-v.v-index c.v-item.result c.requires.once c.loop-v-test.true c.v-item.is)
          (c.deref.ensures.value ∙ c.in_ok-members.ensures.value) c.loop-v.invariant.sets c.in_ok-add.ensures.ok.members);
    })
