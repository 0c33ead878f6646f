-- What is named lies below the end, and so many more below the reach.
use Rattle.std.proofs.Common.{arith}
use Rattle.std.proofs.lemmas.Result.{on_ok_weaker}
use Rattle.zx_flow.proofs.TableChanges.{named_below}
use Rattle.zx_flow.proofs.corrections.Corrections.reserve.Goals as goal

pub returns-in-Some-clause-named : goal.returns-in-Some-clause-named
returns-in-Some-clause-named c =
    on_ok_weaker c.reserve-in-Some.result
    (λ ok v named.
    let below = named_below c.self.invariant c.self.view_is c.end.result v c.end.ensures.sets c.end.ensures.members named in
    omega (arith, ok, below))
    c.reserve-in-Some.ensures.ok
