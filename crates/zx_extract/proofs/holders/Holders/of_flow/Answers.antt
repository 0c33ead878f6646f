use Rattle.std.proofs.Common.{sym, ◌∙◌, ap, subst, List, ℕ, take, take_all, arith}
use Rattle.std.proofs.lemmas.List.{get_or_read}
use Rattle.zx_model.specs.Bits.{member}
use Rattle.zx_calculus.specs.Graph.{Distinct}
use Rattle.gflow_laws.specs.Flow.{SameSets}
use Rattle.zx_calculus.proofs.Ids.{Distinct-rising}
use Rattle.zx_calculus.proofs.Positions.{member-get_or}
use Rattle.open_graph.proofs.Walks.{next_some, next_none, next_all}
use Rattle.zx_extract.specs.Internal.Holders.{table_from}
use Rattle.zx_extract.proofs.HoldersTurning.{IsTurned, SameSets-turned, next_member, next_turned}
use Rattle.zx_extract.proofs.holders.Holders.of_flow.Goals as goal

pub correction_set-requires : goal.correction_set-requires
correction_set-requires c =
    let order = c.order-vertices.result.now in
    ap (λ (l : List ℕ). member c.v-item.result l) (sym c.order-vertices.ensures.value)
    ∙ ap (λ (v : ℕ). member v order) (get_or_read order c.loop-v.v-index c.v-item.result c.loop-v-test.true c.v-item.is 0)
    ∙ member-get_or order c.loop-v.v-index c.loop-v-test.true

pub loop-s-preserved : goal.loop-s-preserved
loop-s-preserved c =
    let set = c.into_iter-s-iterator.result in
    let more = next_some c.next.result c.loop-s.s-iterator c.next.new.self c.in-Some.s c.next.ensures.steps c.in-Some.is in
    record {
      all = next_all c.loop-s.yielded c.loop-s.s-iterator c.next.new.self set c.in-Some.s c.loop-s.invariant.all more;
      turning = next_member c.args.f.now.flow (take c.loop-v.v-index c.order-vertices.result.now) c.loop-s.yielded c.loop-s.s-iterator
          c.next.new.self set c.in-Some.s c.v-item.result c.loop-s.held.lists c.toggle_one.new.self.lists
          (subst Distinct (sym (c.into_iter-s-iterator.ensures.into_iter_gives ∙ c.iter-s-items.ensures.value))
          (Distinct-rising c.correction_set.result.now.ids c.iter-s-items.ensures.rising))
          c.loop-s.invariant.all more c.loop-s.invariant.turning c.in_ok-toggle_one.ensures.ok;
    }

pub loop-v-preserved : goal.loop-v-preserved
loop-v-preserved c =
    next_turned c.args.f.now.flow c.order-vertices.result.now c.loop-v.v-index c.v-item.result c.loop-s.yielded c.loop-s.s-iterator
    c.into_iter-s-iterator.result c.loop-s.held.lists
    (subst Distinct (sym c.order-vertices.ensures.value) c.order-vertices.ensures.valid) c.loop-v-test.true c.v-item.is
    (c.into_iter-s-iterator.ensures.into_iter_gives ∙ c.iter-s-items.ensures.value ∙ c.correction_set.ensures) c.loop-s.invariant.all
    (next_none c.next.result c.loop-s.s-iterator c.next.new.self c.next.ensures.steps c.in-None.is)
    c.loop-s.invariant.turning

pub returns : goal.returns
returns c =
    let table = c.args.f.now.flow in
    let held = c.loop-v.held.lists in
    let turned = subst (λ (vs : List ℕ). IsTurned table vs held)
    (take_all c.loop-v.v-index c.order-vertices.result.now (omega arith) ∙ c.order-vertices.ensures.value) c.loop-v.invariant in
    subst (λ (order : List ℕ). SameSets (table_from held order) table)
    (sym (c.in_ok-order.ensures.items ∙ c.order-vertices.ensures.value)) (SameSets-turned table held turned)
