use Rattle.zx_calculus.proofs.Pivots.{pivot_twice}
use Rattle.zx_calculus.proofs.laws.pivot_is_its_own_inverse.Goals as goal

pub returns : goal.returns
returns c = pivot_twice
