-- At the end all are taken, or none that is left is correctable.
use Rattle.std.proofs.Common.{◌≡◌, sym, ap, subst, ℕ, true, ltb, List, [], reverse}
use Rattle.zx_model.specs.Bits.{member}
use Rattle.zx_calculus.specs.Graph.{in_order}
use Rattle.gflow_laws.specs.Flow.{is_in}
use Rattle.flow_find.specs.declared.search.Search.{Search}
use Rattle.flow_find.specs.Internal.Searching.{IsUnderWay}
use Rattle.flow_find.proofs.Searching.{all_stuck, all_taken, in_table}
use Rattle.flow_find.proofs.search.find.Goals as goal

pub backwards-requires-clause-once : goal.backwards-requires-clause-once
backwards-requires-clause-once c = c.in_ok-take_next.ensures.under_way.taken.each_once

pub backwards-requires-clause-listed : goal.backwards-requires-clause-listed
backwards-requires-clause-listed c =
    let now : Search = c.take_next.new.self in
    in_table c.args.g.now.graph (reverse now.order.items) (is_in now.left.ids) now.table.table c.in_ok-take_next.ensures.under_way.taken

pub returns-then-is_empty-clause-flow : goal.returns-then-is_empty-clause-flow
returns-then-is_empty-clause-flow c =
    let now : Search = c.take_next.new.self in
    let none : now.left.ids ≡ [] = c.is_empty.ensures.0 c.if-is_empty.true in
    all_taken c.args.g.now.graph (reverse now.order.items) (is_in now.left.ids) now.table.table c.in_ok-flow.flow.table
    c.in_ok-take_next.ensures.under_way.taken (λ w. ap (member w) none) c.in_ok-flow.ensures.order c.in_ok-flow.ensures.sets

pub returns-clause-stuck : goal.returns-clause-stuck
returns-clause-stuck c =
    let now : Search = c.take_next.new.self in
    let under_way : IsUnderWay c.args.g.now.graph now = c.in_ok-take_next.ensures.under_way in
    let stuck : List ℕ = c.in_ok-stuck.stuck.items in
    all_stuck c.args.g.now.graph under_way.valid (reverse now.order.items) (is_in now.left.ids) now.rows.items now.table.table
    under_way.taken under_way.frontier stuck (λ w. ap (member w) (sym c.in_ok-stuck.ensures.value))
    (c.in_ok-take_next.ensures.none c.if-branch.false)
    (subst (λ (l : List ℕ). in_order ltb l ≡ true) (sym c.in_ok-stuck.ensures.value) c.listed.ensures.rising)
