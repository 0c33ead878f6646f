-- One vertex more goes, and its set is found.
use Rattle.std.proofs.Common.{◌≡◌, ◌∙◌, refl, sym, ap, subst, ℕ, suc, ◌-◌, Bool, List, length, take_all, arith}
use Rattle.std.proofs.lemmas.List.{drop_all}
use Rattle.std.proofs.lemmas.Bool.{true≢false}
use Rattle.zx_model.specs.Bits.{member}
use Rattle.zx_calculus.specs.Graph.{Distinct}
use Rattle.gflow_laws.specs.Seen.{seen}
use Rattle.gflow_laws.specs.Flow.{Correction, is_in}
use Rattle.flow_find.specs.declared.row.Row.{Row}
use Rattle.flow_find.proofs.Orders.{is_order}
use Rattle.flow_find.proofs.Choosing.{IsLeftAlong, IsFoundAlong, IsNext, is_next, same_size, lives, passable, gone_on, found_on, set_listed, all_found}
use Rattle.flow_find.proofs.cheap.correct_all.Goals as goal

pub set_of-requires : goal.set_of-requires
set_of-requires c = subst Distinct (sym c.deref.ensures.value) (is_order c.args.g.now.graph c.args.order.now.items c.requires.along).each_once

pub first_rows-requires : goal.first_rows-requires
first_rows-requires c = λ w.
    c.in_ok-left.ensures w ∙ ap (member w) c.deref.ensures.value ∙ (is_order c.args.g.now.graph c.args.order.now.items c.requires.along).non_outputs w

pub loop-i-init : goal.loop-i-init
loop-i-init c = record {
  so_far = record {
    is_order = is_order c.args.g.now.graph c.args.order.now.items c.requires.along;
    marks = λ w. c.in_ok-left.ensures w ∙ ap (member w) (c.deref.ensures.value ∙ sym (take_all c.len-i.result c.args.order.now.items (omega arith)));
    frontier = c.in_ok-rows.ensures.rows;
  };
  found = record {
    listed = λ w. ap (member w) (c.requires.table);
    corrected = λ v there. absurd (true≢false (sym there ∙ ap (member v) (drop_all c.len-i.result c.args.order.now.items (omega arith))));
  };
  size = refl;
}

pub index-v-requires : goal.index-v-requires
index-v-requires c =
    let size : length c.loop-i.order.items ≡ length c.args.order.now.items = c.loop-i.invariant.size in
    let same : length c.choose.new.order.items ≡ length c.loop-i.order.items =
    same_size (seen c.args.g.now.graph) c.deref-in-loop-i.result.now (c.loop-i.i - 1) c.loop-i.order.items c.choose.new.order.items c.in_ok-choose.ensures in
    omega (arith, size, same)

pub correct_last-requires-clause-listed : goal.correct_last-requires-clause-listed
correct_last-requires-clause-listed c =
    let found : IsFoundAlong c.args.g.now.graph c.loop-i.order.items (suc (c.loop-i.i - 1)) c.loop-i.table.table =
    subst (λ (k : ℕ). IsFoundAlong c.args.g.now.graph c.loop-i.order.items k c.loop-i.table.table) (omega arith) c.loop-i.invariant.found in
    set_listed _ _ _ _ _ _ _
    (is_next c.args.g.now.graph c.deref-in-loop-i.result.now c.loop-i.rows.items c.loop-i.i c.args.order.now.items
    c.loop-i.order.items c.choose.new.order.items (is_in c.loop-i.left.ids) c.index-v.result.now c.in_ok-rows.ensures.valid
    c.deref-in-loop-i.ensures.value (omega arith) (omega arith) c.loop-i.invariant.size c.in_ok-choose.ensures
    c.loop-i.invariant.so_far c.index-v.ensures)
    c.loop-i.table.table found

pub correct_last-requires-clause-live : goal.correct_last-requires-clause-live
correct_last-requires-clause-live c = lives _ _ _ _ _ _ _
    (is_next c.args.g.now.graph c.deref-in-loop-i.result.now c.loop-i.rows.items c.loop-i.i c.args.order.now.items
    c.loop-i.order.items c.choose.new.order.items (is_in c.loop-i.left.ids) c.index-v.result.now c.in_ok-rows.ensures.valid
    c.deref-in-loop-i.ensures.value (omega arith) (omega arith) c.loop-i.invariant.size c.in_ok-choose.ensures
    c.loop-i.invariant.so_far c.index-v.ensures)

pub loop-i-preserved : goal.loop-i-preserved
loop-i-preserved c =
    let graph = c.args.g.now.graph in
    let old : List ℕ = c.loop-i.order.items in
    let new : List ℕ = c.choose.new.order.items in
    let i : ℕ = c.loop-i.i - 1 in
    let v : ℕ = c.index-v.result.now in
    let rows : List Row = c.loop-i.rows.items in
    let left : ℕ → Bool = is_in c.loop-i.left.ids in
    let next : IsNext graph rows i old new left v =
    is_next c.args.g.now.graph c.deref-in-loop-i.result.now c.loop-i.rows.items c.loop-i.i c.args.order.now.items
    c.loop-i.order.items c.choose.new.order.items (is_in c.loop-i.left.ids) c.index-v.result.now c.in_ok-rows.ensures.valid
    c.deref-in-loop-i.ensures.value (omega arith) (omega arith) c.loop-i.invariant.size c.in_ok-choose.ensures
    c.loop-i.invariant.so_far c.index-v.ensures in
    let found : IsFoundAlong graph old (suc i) c.loop-i.table.table =
    subst (λ (k : ℕ). IsFoundAlong graph old k c.loop-i.table.table) (omega arith) c.loop-i.invariant.found in
    let now : ℕ → Bool = is_in c.correct_last.new.left.ids in
    record {
      so_far = gone_on graph rows i old new left v next now c.correct_last.new.rows.items c.in_ok-correct_last.ensures.left
          (c.in_ok-correct_last.ensures.rows (passable graph rows i old new left v next now c.in_ok-correct_last.ensures.left));
      found = subst (λ (table : List Correction). IsFoundAlong graph new i table) (sym c.in_ok-correct_last.ensures.table.put)
          (found_on graph rows i old new left v next c.loop-i.table.table c.in_ok-correct_last.ensures.table.members found
          c.in_ok-correct_last.ensures.table.given);
      size = same_size (seen graph) rows i old new next.choice ∙ c.loop-i.invariant.size;
    }

pub returns-clause-once : goal.returns-clause-once
returns-clause-once c = c.loop-i.invariant.so_far.is_order.each_once

pub returns-clause-listed : goal.returns-clause-listed
returns-clause-listed c = λ v there. c.loop-i.invariant.found.listed v ∙ there

pub returns-clause-flow : goal.returns-clause-flow
returns-clause-flow c = λ new along sets.
    all_found c.args.g.now.graph c.loop-i.order.items (is_in c.loop-i.left.ids) c.loop-i.rows.items c.loop-i.table.table new
    (subst (λ (k : ℕ). IsLeftAlong c.args.g.now.graph c.loop-i.order.items k (is_in c.loop-i.left.ids) c.loop-i.rows.items) (omega arith) c.loop-i.invariant.so_far)
    (subst (λ (k : ℕ). IsFoundAlong c.args.g.now.graph c.loop-i.order.items k c.loop-i.table.table) (omega arith) c.loop-i.invariant.found)
    along sets
