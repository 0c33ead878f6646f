-- What the parse says of the words is what is stated of them.
use Rattle.std.proofs.Common.{◌∙◌, ap, map, List, inl, inr}
use Rattle.clap.specs.Words.{Text, app_of, is_simple, is_simple_and_free}
use Rattle.zx_words.specs.CommandLine.{command_by}
use Rattle.zx_words.proofs.ClapAgrees.{refused, taken}
use Rattle.zx_words.proofs.WordLemmas.{simple, free}
use Rattle.zx_words.proofs.words.command_in.Goals as goal

pub returns-in-Ok-clause-command : goal.returns-in-Ok-clause-command
returns-in-Ok-clause-command c =
    let words : List Text = map (λ w. w.now) c.args.words.now in
    let is = c.in_ok-definition.ensures in
    c.command_by.ensures.command
    ∙ ap command_by (c.in-Ok.ensures.matches (ap is_simple is ∙ simple)).1
    ∙ taken (app_of c.in_ok-definition.definition) words is (c.in-Ok.ensures.kinds (ap is_simple_and_free is ∙ free))

pub returns-clause-command : goal.returns-clause-command
returns-clause-command c =
    let words : List Text = map (λ w. w.now) c.args.words.now in
    let is = c.in_ok-definition.ensures in
    elim (c.in-Err.ensures.kinds (ap is_simple_and_free is ∙ free)) [
      | inl memory ↦ absurd (c.in_default.not-OutOfMemory (c.kind.ensures ∙ memory))
      | inr among ↦ refused _ (app_of c.in_ok-definition.definition) words is among
    ]
