-- What the moves lead to from where no gate comes any more.
use Rattle.std.proofs.Common.{subst}
use Rattle.zx_reduce.specs.Internal.Progress.{Progress, Exhausts}
use Rattle.zx_reduce.proofs.engine.Engine.complete.Goals as goal

pub returns : goal.returns
returns c = subst (λ (p : Progress). Exhausts p c.make_all.new.self.progress) c.close.ensures c.in_ok-make_all.ensures
