-- One row more.
use Rattle.std.proofs.Common.{sym, subst, IfSome}
use Rattle.gflow_laws.specs.Seen.{seen}
use Rattle.flow_find.specs.Internal.Next.{IsAlone}
use Rattle.flow_find.proofs.cheap.cheapest.Goals as goal
use Rattle.flow_find.proofs.cheap.cheapest.Goals.{then-size-fewest+in-Some, then-size-fewest+in_default, else-size-fewest}

pub loop-row-preserved : goal.loop-row-preserved
loop-row-preserved c = elim c.if-size-fewest.branch [
  | then-size-fewest+in-Some w ↦ subst (λ best. IfSome best (λ v. IsAlone (seen c.args.g.now.graph) c.args.rows.now v)) (sym w.best-is)
      record { row = c.row-item.result; place = c.loop-row.row-index; within = c.loop-row-test.true; there = c.row-item.is; alone = w.in-Some.ensures }
  | then-size-fewest+in_default w ↦ subst (λ best. IfSome best (λ v. IsAlone (seen c.args.g.now.graph) c.args.rows.now v)) (sym w.best-is) c.loop-row.invariant
  | else-size-fewest w ↦ subst (λ best. IfSome best (λ v. IsAlone (seen c.args.g.now.graph) c.args.rows.now v)) (sym w.best-is) c.loop-row.invariant
]
