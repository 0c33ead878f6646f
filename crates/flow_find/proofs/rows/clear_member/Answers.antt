-- One row more is changed.
use Rattle.std.proofs.Common.{add-one, subst, Bool, get_or, arith}
use Rattle.flow_find.specs.Internal.Rows.{IsAdded, IsRelieved}
use Rattle.flow_find.proofs.Steps.{changed_more, changed_all}
use Rattle.flow_find.proofs.rows.clear_member.Goals as goal

pub loop-other-preserved : goal.loop-other-preserved
loop-other-preserved c =
    rw add-one (changed_more (IsRelieved c.args.member c.args.row.now) c.loop-other.other-index c.args.rows.now c.loop-other.rows c.add_counted_if.new.self c.other-item.result
    (omega arith) c.loop-other.invariant
    (subst (λ (b : Bool). IsAdded b c.args.row.now (get_or c.loop-other.rows c.loop-other.other-index c.other-item.result) c.add_counted_if.new.self)
    c.contains-has_it.ensures c.in_ok-add_counted_if.ensures))

pub returns : goal.returns
returns c =
    changed_all (IsRelieved c.args.member c.args.row.now) c.loop-other.other-index c.args.rows.now c.loop-other.rows (omega arith) c.loop-other.invariant
