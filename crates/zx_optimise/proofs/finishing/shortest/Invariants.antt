-- The best one so far is made of the circuit, and tidy.
use Rattle.std.proofs.Common.{IfSome}
use Rattle.zx_peephole.specs.Tidy.{IsTidy}
use Rattle.zx_optimise.specs.Bounds.{most_root2_of_fewer}
use Rattle.zx_optimise.specs.Internal.Making.{IsMadeOf}
use Rattle.zx_optimise.proofs.finishing.shortest.Given as goal

abbrev pub invariant-loop-end : goal.invariant-loop-end
invariant-loop-end l = record {
  made : IfSome l.best (IsMadeOf most_root2_of_fewer l.list);
  tidy : IfSome l.best (λ made. IsTidy made.gates.gates);
}
