-- What begins with the line is the line and what is behind it.
use Rattle.std.proofs.Common.{◌≡◌, ◌-◌, ◌++◌, length, take, drop, ap, subst, ◌∙◌}
use Rattle.std.proofs.lemmas.List.{drop-drop}
use Rattle.std.proofs.lemmas.Bool.Decides.{Decides-eqb}
use Rattle.std.proofs.lemmas.Slice.Eq.{starts_is}
use Rattle.zx_run.specs.TwoTexts.{parting_line}
use Rattle.zx_run.proofs.PartingLemmas.{from_on}
use Rattle.zx_run.proofs.two_texts.is_line_at.Goals as goal

pub returns-clause-begins : goal.returns-clause-begins
returns-clause-begins c = λ is.
    let text = c.args.text.now in
    let at = c.args.at in
    let part = take (length text - at) (drop at text) in
    subst (λ p. p ≡ parting_line ++ drop (length parting_line) p) (from_on text at)
    ((starts_is Decides-eqb part parting_line c.starts_with.result c.starts_with.ensures.value).0 is)
    ∙ ap (λ r. parting_line ++ r) (drop-drop (length parting_line) at text)
