use Rattle.std.proofs.Common.{◌-◌, length}
use Rattle.std.specs.List.{sum_by}
use Rattle.graph_like.proofs.TakingIn.{IsTaking}
use Rattle.graph_like.proofs.classes.Contraction.take_in_all.Given as goal

abbrev pub invariant-loop-i : goal.invariant-loop-i
invariant-loop-i l = IsTaking l.fn.self.near.items l.fn.self.least.items l.self.near.items l.self.least.items l.u l.i

abbrev pub decreases-loop-i : goal.decreases-loop-i
decreases-loop-i l = sum_by length l.self.near.items - l.i
