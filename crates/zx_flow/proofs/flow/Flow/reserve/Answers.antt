use Rattle.std.proofs.Common.{sym, ap, subst, List}
use Rattle.std.proofs.lemmas.Result.{on_ok_weaker}
use Rattle.gflow_laws.specs.Flow.{Correction}
use Rattle.zx_flow.specs.Flows.{Flow, IsNamed}
use Rattle.zx_flow.proofs.flow.Flow.reserve.Goals as goal

pub returns-clause-named : goal.returns-clause-named
returns-clause-named c =
    on_ok_weaker c.reserve.result
    (λ all v named. all v (subst (λ (t : List Correction). IsNamed t v) (sym (ap (λ (f : Flow). f.flow) c.self.view_is)) named))
    c.reserve.ensures.named
