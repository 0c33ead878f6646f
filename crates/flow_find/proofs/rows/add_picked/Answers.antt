use Rattle.std.proofs.Common.{add-one, subst, ℕ, Bool}
use Rattle.gflow_laws.specs.Seen.{seen}
use Rattle.flow_find.specs.Frontiers.{around}
use Rattle.flow_find.specs.Internal.Rows.{IsAdded}
use Rattle.flow_find.proofs.Steps.{sum_more, sum_all}
use Rattle.flow_find.proofs.rows.add_picked.Goals as goal

pub loop-row-preserved : goal.loop-row-preserved
loop-row-preserved c =
    let picked : ℕ → Bool = around (seen c.args.g.now.graph) c.args.picked.now.vertex c.args.picked.now.neighbours c.args.picked.now.itself in
    rw add-one (sum_more picked c.args.rows.now c.loop-row.row-index c.row-item.result c.args.sum.now c.loop-row.sum c.add_if.new.self
    c.loop-row-test.true c.row-item.is c.loop-row.invariant
    (subst (λ (b : Bool). IsAdded b c.row-item.result c.loop-row.sum c.add_if.new.self) c.has.ensures c.in_ok-add_if.ensures))

pub returns : goal.returns
returns c =
    sum_all (around (seen c.args.g.now.graph) c.args.picked.now.vertex c.args.picked.now.neighbours c.args.picked.now.itself) c.args.rows.now
    c.loop-row.row-index c.args.sum.now c.loop-row.sum c.loop-row-test.false c.loop-row.invariant
