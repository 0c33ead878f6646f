-- One term more.
use Rattle.std.proofs.Common.{ap, ◌∙◌}
use Rattle.zx_identities.specs.Internal.Parities.{phase_of}
use Rattle.zx_identities.proofs.ParityLemmas.{phase_of-append}
use Rattle.zx_identities.proofs.parities.push.Goals as goal

pub returns : goal.returns
returns c = λ x. ap (λ items. phase_of items x) c.in_ok-push.ensures.items ∙ phase_of-append c.args.terms.now.items _ x
