-- The three phases are that of a controlled Z.
use Rattle.std.proofs.Common.{◌+◌, ◌%◌, ap, ◌∙◌}
use Rattle.std.specs.Prelude.{bit_xor}
use Rattle.std.proofs.lemmas.Result.{on_ok_weaker}
use Rattle.zx_model.specs.Phase.{turn}
use Rattle.zx_identities.specs.Internal.Parities.{phase_of, term_phase}
use Rattle.zx_identities.proofs.ParityLemmas.{controlled}
use Rattle.zx_identities.proofs.parities.push_controlled.Goals as goal

pub returns : goal.returns
returns c =
    on_ok_weaker c.push-3.result
    (λ last x.
    ap (λ k. k % turn)
    (last x
    ∙ ap (λ k. k + term_phase (bit_xor c.args.one c.args.other) 12 x)
    (c.in_ok-push-2.ensures x ∙ ap (λ k. k + term_phase c.args.other 4 x) (c.in_ok-push.ensures x)))
    ∙ controlled (phase_of c.args.terms.now.items x) c.args.one c.args.other x)
    c.push-3.ensures
