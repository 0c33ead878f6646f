-- The vertex that goes may be a member from now on, where it has no input.
use Rattle.std.proofs.Common.{◌≡◌, sym, ◌∙◌, subst, List, true, false, ℕ, Bool, not, ◌&&◌, ◌++◌, length, take, drop, arith}
use Rattle.gflow_laws.specs.Flow.{is_in}
use Rattle.zx_calculus.specs.Graph.{is_XY}
use Rattle.zx_calculus.proofs.Ids.{and-left, and-right, not-true}
use Rattle.gflow_laws.proofs.Views.{Simple-seen}
use Rattle.gflow_laws.specs.Seen.{Seen, seen}
use Rattle.flow_find.specs.declared.row.Row.{Row}
use Rattle.flow_find.specs.Frontiers.{AreAll, usable, IsFrontier, IsFrontierOf, with_one}
use Rattle.flow_find.specs.Internal.Rows.{AreEach, IsDropped}
use Rattle.flow_find.proofs.Changing.{IsWithout, dropped_without, dropped}
use Rattle.flow_find.proofs.Passing.{passed_in, passed_without}
use Rattle.flow_find.proofs.Steps.{written}
use Rattle.flow_find.proofs.Few.{still_few, written_size}
use Rattle.flow_find.proofs.frontier.pass.Goals as goal

pub turn-requires : goal.turn-requires
turn-requires c =
    subst (AreAll (IsWithout c.args.v))
    (sym (written (IsDropped c.args.v) c.deref_mut.result.now c.args.rows.now.items c.drop_column.new.rows c.args.rows.now.len c.deref_mut.ensures.value c.args.rows.now.ok.0 c.in_ok-drop_column.ensures))
    (dropped_without c.args.v c.deref_mut.result.now c.drop_column.new.rows c.in_ok-drop_column.ensures)

after_turn : (s : Seen) (left : ℕ → Bool) (v : ℕ) (old at mid new : List Row) (k : ℕ) → at ≡ old → k ≡ length old → left v ≡ false → AreEach (IsDropped v) at mid →
    ((s : Seen) (left may : ℕ → Bool) → IsFrontier s left (with_one left v) may (take k (mid ++ drop (length mid) old)) → IsFrontier s left left may new) →
    IsFrontierOf s (with_one left v) old → IsFrontier s left left (usable s (with_one left v)) new
after_turn s left v old at mid new k same len gone each turn frontier =
    turn s left (usable s (with_one left v))
    (subst (λ (rows : List Row). IsFrontier s left (with_one left v) (usable s (with_one left v)) rows) (sym (written (IsDropped v) at old mid k same len each))
    (dropped s left (with_one left v) (usable s (with_one left v)) v at mid gone each (subst (λ (rows : List Row). IsFrontierOf s (with_one left v) rows) (sym same) frontier)))

pub returns-in_ok-insert-clause-rows : goal.returns-in_ok-insert-clause-rows
returns-in_ok-insert-clause-rows c = λ before.
    let s : Seen = seen c.args.g.now.graph in
    let left : ℕ → Bool = is_in c.args.left.now.ids in
    let row : (is_XY (s.plane c.args.v) && not (s.input c.args.v)) ≡ true = sym c.needs_row.ensures.value ∙ c.if-needs_row.true in
    passed_in s left c.args.v c.insert.new.rows.items c.requires.live (not-true _ (and-right _ _ row)) c.requires.gone
    (c.in_ok-insert.ensures.rows (usable s (with_one left c.args.v))
    (after_turn s left c.args.v c.args.rows.now.items c.deref_mut.result.now c.drop_column.new.rows c.turn.new.rows.items c.args.rows.now.len
    c.deref_mut.ensures.value c.args.rows.now.ok.0 c.requires.gone c.in_ok-drop_column.ensures c.in_ok-turn.ensures.rows before.0))

pub returns-else-needs_row-clause-rows : goal.returns-else-needs_row-clause-rows
returns-else-needs_row-clause-rows c = λ before.
    let s : Seen = seen c.args.g.now.graph in
    let left : ℕ → Bool = is_in c.args.left.now.ids in
    passed_without s left c.args.v c.turn.new.rows.items (Simple-seen c.args.g.now.graph c.needs_row.ensures.valid) c.requires.live c.requires.gone
    (sym c.needs_row.ensures.value ∙ c.if-needs_row.false) before.1
    (after_turn s left c.args.v c.args.rows.now.items c.deref_mut.result.now c.drop_column.new.rows c.turn.new.rows.items c.args.rows.now.len
    c.deref_mut.ensures.value c.args.rows.now.ok.0 c.requires.gone c.in_ok-drop_column.ensures c.in_ok-turn.ensures.rows before.0)

pub returns-in_ok-insert-clause-few : goal.returns-in_ok-insert-clause-few
returns-in_ok-insert-clause-few c = λ before.
    let s : Seen = seen c.args.g.now.graph in
    let left : ℕ → Bool = is_in c.args.left.now.ids in
    let row : (is_XY (s.plane c.args.v) && not (s.input c.args.v)) ≡ true = sym c.needs_row.ensures.value ∙ c.if-needs_row.true in
    still_few s left c.args.v c.args.rows.now.items c.deref_mut.result.now c.drop_column.new.rows c.turn.new.rows.items c.insert.new.rows.items c.args.rows.now.len
    (Simple-seen c.args.g.now.graph c.needs_row.ensures.valid) (and-left _ _ row) before
    c.deref_mut.ensures.value c.args.rows.now.ok.0 c.in_ok-drop_column.ensures c.in_ok-turn.ensures.fewer c.in_ok-insert.ensures.few

pub returns-else-needs_row-clause-few : goal.returns-else-needs_row-clause-few
returns-else-needs_row-clause-few c = λ before.
    let size : length (take c.args.rows.now.len (c.drop_column.new.rows ++ drop (length c.drop_column.new.rows) c.args.rows.now.items)) ≡ length c.args.rows.now.items =
    written_size (IsDropped c.args.v) c.deref_mut.result.now c.args.rows.now.items c.drop_column.new.rows c.args.rows.now.len c.deref_mut.ensures.value c.args.rows.now.ok.0 c.in_ok-drop_column.ensures in
    omega (arith, size, c.in_ok-turn.ensures.few)
