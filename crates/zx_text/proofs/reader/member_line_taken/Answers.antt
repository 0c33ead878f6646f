-- The set of the next vertex.
use Rattle.std.proofs.Common.{◌≡◌, ◌∙◌, refl, sym, subst, IfOk}
use Rattle.std.specs.Option.{option_map}
use Rattle.zx_text.specs.Internal.Stepping.{InSets}
use Rattle.zx_text.specs.Internal.Readers.{lines_so_far}
use Rattle.zx_text.proofs.StepLemmas.{kept_by, set_next}
use Rattle.zx_text.proofs.reader.member_line_taken.Goals as goal

pub returns-else-v-get : goal.returns-else-v-get
returns-else-v-get c = rw c.in-Correct.is (subst (λ st. IfOk c.kept.result (λ next. option_map lines_so_far next ≡ st))
    (sym (set_next c.args.part c.args.next c.in-Correct.v c.in-Correct.members.items c.deref.result.now c.requires.next (c.if-v-get.false ∙ c.get.ensures) c.deref.ensures.value))
    (kept_by InSets c.kept.result _ _ refl refl c.take_set-fits.ensures.fits c.take_set-fits.ensures.added c.kept.ensures))
