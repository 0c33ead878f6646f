-- One more.
use Rattle.std.proofs.Common.{ap₂, ◌∙◌, ◌++◌, ◌∷◌, [], arith}
use Rattle.zx_identities.proofs.ParityLemmas.{units-next, shl_fits}
use Rattle.zx_identities.proofs.parities.units.Goals as goal

pub loop-q-preserved : goal.loop-q-preserved
loop-q-preserved c =
    c.in_ok-push.ensures.items ∙ ap₂ (λ us v. us ++ v ∷ []) c.loop-q.invariant (shl_fits c.loop-q.q (omega arith)) ∙ units-next c.loop-q.q
