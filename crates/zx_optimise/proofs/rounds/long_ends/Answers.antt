-- An end more is kept, or none.
use Rattle.std.proofs.Common.{sym, subst}
use Rattle.std.specs.List.{All}
use Rattle.zx_optimise.specs.Bounds.{most_root2_of_fewer}
use Rattle.zx_optimise.specs.Internal.Making.{IsMadeOf}
use Rattle.zx_optimise.proofs.rounds.long_ends.Goals.{in-Some+then-counts-odd+in_ok-keep, in-Some+else-counts-odd, in_default}
use Rattle.zx_optimise.proofs.rounds.long_ends.Goals as goal

pub loop-insertion-preserved : goal.loop-insertion-preserved
loop-insertion-preserved c = elim c.match-branch-3.branch [
  | in-Some+then-counts-odd+in_ok-keep w ↦ subst (λ v. All (IsMadeOf most_root2_of_fewer c.args.list.now) v.items) (sym w.ends-is)
      (w.in_ok-keep.ensures c.args.list.now c.loop-insertion.invariant (rw w.in-Some.is at c.in_ok-end.ensures))
  | in-Some+else-counts-odd w ↦ subst (λ v. All (IsMadeOf most_root2_of_fewer c.args.list.now) v.items) (sym w.ends-is)
      c.loop-insertion.invariant
  | in_default w ↦ subst (λ v. All (IsMadeOf most_root2_of_fewer c.args.list.now) v.items) (sym w.ends-is) c.loop-insertion.invariant
]
