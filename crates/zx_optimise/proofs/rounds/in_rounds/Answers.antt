-- The circuit itself is made of it, and what is made of that.
use Rattle.std.proofs.Common.{sym, subst}
use Rattle.zx_optimise.specs.Bounds.{most_root2_of_fewer}
use Rattle.zx_optimise.specs.Internal.Making.{IsMadeOf}
use Rattle.zx_optimise.proofs.Made.{made_of_itself}
use Rattle.zx_optimise.proofs.rounds.in_rounds.Goals.{in-Some-2, in_default-2}
use Rattle.zx_optimise.proofs.rounds.in_rounds.Goals as goal

pub loop-round-init : goal.loop-round-init
loop-round-init c =
    made_of_itself most_root2_of_fewer c.args.list.now c.in_ok-copy.field-0 c.one.result c.in_ok-copy.ensures c.one.ensures

pub loop-round-preserved : goal.loop-round-preserved
loop-round-preserved c = elim c.match-branch-5.branch [
  | in-Some-2 w ↦ subst (IsMadeOf most_root2_of_fewer c.args.list.now) (sym w.current-is)
      (rw w.in-Some-2.is at (c.in_ok-made.ensures c.args.list.now c.loop-round.invariant))
  | in_default-2 w ↦ subst (IsMadeOf most_root2_of_fewer c.args.list.now) (sym w.current-is) c.loop-round.invariant
]
