-- A row whose pivot went is put again.
use Rattle.std.proofs.Common.{sym, ap, subst, List, ◌||◌, ◌≤◌, length, eqb}
use Rattle.flow_find.specs.declared.row.Row.{Row}
use Rattle.flow_find.specs.Frontiers.{IsFrontier, with_one}
use Rattle.flow_find.proofs.Changing.{IsWithout, AreAll-taken, turned_once, no_stale}
use Rattle.flow_find.proofs.Few.{few_more, fewer_more, fewer_at_last}
use Rattle.flow_find.proofs.Stale.{stale_less, put_without}
use Rattle.flow_find.proofs.frontier.turn.Goals as goal

pub turn-smaller : goal.turn-smaller
turn-smaller c =
    stale_less c.args.v c.in-Some.row c.turn.rows.items c.take_pivot.new.rows.items c.put.new.rows.items
    c.in-Some.ensures.some c.turn.invariant.without c.in_ok-put.ensures

pub turn-preserved : goal.turn-preserved
turn-preserved c =
    let parts = AreAll-taken (IsWithout c.args.v) c.args.v c.in-Some.row c.turn.rows.items c.take_pivot.new.rows.items c.in-Some.ensures.some c.turn.invariant.without in
    record {
      without = put_without c.args.v c.in-Some.row c.take_pivot.new.rows.items c.put.new.rows.items parts.0 parts.1 c.in_ok-put.ensures;
      few = few_more c.args.v c.in-Some.row c.args.rows.now.items c.turn.rows.items c.take_pivot.new.rows.items c.put.new.rows.items c.in-Some.ensures.some c.in_ok-put.ensures c.turn.invariant.few;
      fewer = λ cancelled. fewer_more c.args.v c.in-Some.row c.args.rows.now.items c.turn.rows.items c.take_pivot.new.rows.items c.put.new.rows.items c.in-Some.ensures.some c.turn.invariant.without c.in_ok-put.ensures c.turn.invariant.few (c.turn.invariant.fewer cancelled);
      kept = λ s left may frontier.
          turned_once s left (with_one left c.args.v) may c.args.v c.in-Some.row c.turn.rows.items c.take_pivot.new.rows.items c.put.new.rows.items
          (λ w l. ap (λ b. b || eqb w c.args.v) l) c.in-Some.ensures.some c.in_ok-put.ensures (c.turn.invariant.kept s left may frontier);
    }

pub returns-clause-rows : goal.returns-clause-rows
returns-clause-rows c = λ s left may frontier.
    no_stale s left may c.args.v c.take_pivot.new.rows.items c.in_default.ensures.none
    (subst (λ (rows : List Row). IsFrontier s left (with_one left c.args.v) may rows) (sym c.in_default.ensures.same) (c.turn.invariant.kept s left may frontier))

pub returns-clause-few : goal.returns-clause-few
returns-clause-few c = subst (λ (rows : List Row). length rows ≤ length c.args.rows.now.items) (sym c.in_default.ensures.same) c.turn.invariant.few

pub returns-clause-fewer : goal.returns-clause-fewer
returns-clause-fewer c = λ cancelled.
    fewer_at_last c.args.v c.args.rows.now.items c.turn.rows.items c.take_pivot.new.rows.items c.in_default.ensures.same c.in_default.ensures.none (c.turn.invariant.fewer cancelled)
