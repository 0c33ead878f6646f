-- An end by short searches is kept, or none.
use Rattle.std.proofs.Common.{sym, subst}
use Rattle.std.specs.List.{All}
use Rattle.zx_optimise.specs.Bounds.{most_root2_of_fewer}
use Rattle.zx_optimise.specs.Internal.Making.{IsMadeOf}
use Rattle.zx_optimise.proofs.rounds.ends.Goals.{then-is_empty+in_ok-made+then-counts+in_ok-keep, then-is_empty+in_ok-made+else-counts, else-is_empty}
use Rattle.zx_optimise.proofs.rounds.ends.Goals as goal

pub returns : goal.returns
returns c = elim c.if-is_empty.branch [
  | then-is_empty+in_ok-made+then-counts+in_ok-keep w ↦ subst (λ v. All (IsMadeOf most_root2_of_fewer c.args.list.now) v.items)
      (sym w.ends-is) (w.in_ok-keep.ensures c.args.list.now c.in_ok-ends.ensures w.in_ok-made.ensures)
  | then-is_empty+in_ok-made+else-counts w ↦ subst (λ v. All (IsMadeOf most_root2_of_fewer c.args.list.now) v.items) (sym w.ends-is)
      c.in_ok-ends.ensures
  | else-is_empty w ↦ subst (λ v. All (IsMadeOf most_root2_of_fewer c.args.list.now) v.items) (sym w.ends-is) c.in_ok-ends.ensures
]
