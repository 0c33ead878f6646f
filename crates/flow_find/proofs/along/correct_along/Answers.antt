-- One set more is found.
use Rattle.std.proofs.Common.{◌∙◌, sym, ap, subst, ℕ, suc, ◌-◌, Bool, List, ◌≤◌, length, arith}
use Rattle.zx_model.specs.Bits.{member}
use Rattle.gflow_laws.specs.Seen.{seen}
use Rattle.gflow_laws.specs.Flow.{Correction, is_in}
use Rattle.flow_find.specs.declared.row.Row.{Row}
use Rattle.flow_find.specs.Frontiers.{IsFrontierOf}
use Rattle.flow_find.specs.Internal.Rows.{IsPassable}
use Rattle.flow_find.proofs.Orders.{IsSoFar, IsOrder, IsPlace, is_order, is_place, is_live, listed, last_left, correctable_at, one_more, still_left, whole_flow}
use Rattle.flow_find.proofs.along.correct_along.Goals as goal

pub set_of-requires : goal.set_of-requires
set_of-requires c = (is_order c.args.g.now.graph c.args.order.now c.requires.along).each_once

pub first_rows-requires : goal.first_rows-requires
first_rows-requires c = λ w.
    c.in_ok-left.ensures w ∙ (is_order c.args.g.now.graph c.args.order.now c.requires.along).non_outputs w

pub correct_last-requires-clause-live : goal.correct_last-requires-clause-live
correct_last-requires-clause-live c =
    is_live c.args.g.now.graph c.args.order.now c.first_rows.ensures.valid (is_order c.args.g.now.graph c.args.order.now c.requires.along) (c.loop-i.i - 1) c.index-order-i.result
    (is_place c.args.order.now (c.loop-i.i - 1) c.index-order-i.result (omega arith) c.index-order-i.is)

pub correct_last-requires-clause-listed : goal.correct_last-requires-clause-listed
correct_last-requires-clause-listed c =
    ap (member c.index-order-i.result) c.loop-i.invariant.so_far.is_order
    ∙ listed c.args.g.now.graph c.args.order.now c.first_rows.ensures.valid (is_order c.args.g.now.graph c.args.order.now c.requires.along) (c.loop-i.i - 1) c.index-order-i.result
    (is_place c.args.order.now (c.loop-i.i - 1) c.index-order-i.result (omega arith) c.index-order-i.is)

pub loop-i-preserved : goal.loop-i-preserved
loop-i-preserved c =
    let graph = c.args.g.now.graph in
    let order : List ℕ = c.args.order.now in
    let v : ℕ = c.index-order-i.result in
    let i : ℕ = c.loop-i.i - 1 in
    let left : ℕ → Bool = is_in c.loop-i.left.ids in
    let now : ℕ → Bool = is_in c.correct_last.new.left.ids in
    let rows : List Row = c.loop-i.rows.items in
    let whole : IsOrder graph order = is_order graph order c.requires.along in
    let place : IsPlace order i v = is_place order i v (omega arith) c.index-order-i.is in
    let so_far : IsSoFar graph order (suc i) left rows c.loop-i.table.table =
    subst (λ (k : ℕ). IsSoFar graph order k left rows c.loop-i.table.table) (omega arith) c.loop-i.invariant.so_far in
    let before : IsPassable (seen graph) now v rows =
    still_left (seen graph) left now v rows (last_left graph order c.first_rows.ensures.valid whole i v place left so_far.marks) c.in_ok-correct_last.ensures.left so_far.frontier
    (correctable_at graph order c.first_rows.ensures.valid whole i v place left so_far.marks) in
    let after : IsFrontierOf (seen graph) now c.correct_last.new.rows.items =
    c.in_ok-correct_last.ensures.rows before in
    let few : length c.correct_last.new.rows.items ≤ length rows =
    c.in_ok-correct_last.ensures.few before in
    let found : IsSoFar graph order i now c.correct_last.new.rows.items c.correct_last.new.table.table = subst (λ (table : List Correction). IsSoFar graph order i now c.correct_last.new.rows.items table) (sym c.in_ok-correct_last.ensures.table.put)
    (one_more graph order c.first_rows.ensures.valid whole i v place left now rows c.correct_last.new.rows.items c.loop-i.table.table c.in_ok-correct_last.ensures.table.members
    so_far c.in_ok-correct_last.ensures.table.given c.in_ok-correct_last.ensures.left after) in
    record { so_far = found; few = omega (arith, few, c.loop-i.invariant.few) }

pub returns-clause-flow : goal.returns-clause-flow
returns-clause-flow c =
    whole_flow c.args.g.now.graph c.args.order.now (is_in c.loop-i.left.ids) c.loop-i.rows.items c.loop-i.table.table
    (is_order c.args.g.now.graph c.args.order.now c.requires.along)
    (subst (λ (k : ℕ). IsSoFar c.args.g.now.graph c.args.order.now k (is_in c.loop-i.left.ids) c.loop-i.rows.items c.loop-i.table.table) (omega arith) c.loop-i.invariant.so_far)
