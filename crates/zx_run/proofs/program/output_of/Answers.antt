-- The failure of the command that the words give is that of what they give.
use Rattle.std.proofs.Common.{◌≡◌, Option, Some, IfErr, rules, subst}
use Rattle.zx_words.specs.Command.{command_in}
use Rattle.zx_words.specs.declared.words.Command.{Command}
use Rattle.zx_run.specs.Answers.{ToldSource, IsFailure, told_source}
use Rattle.zx_run.proofs.program.output_of.Goals as goal

pub returns-in-Some-clause-failure : goal.returns-in-Some-clause-failure
returns-in-Some-clause-failure g c =
    let before : ToldSource = told_source g.S.Source.left g.S.Source.faults c.args.source.now in
    let after : ToldSource = told_source g.S.Source.left g.S.Source.faults c.made.new.source in
    let given : ◌≡◌ {A = Option Command} (Some c.in-Some.command) (command_in c.args.words.now) = search rules in
    subst (λ o. IfErr c.made.result (IsFailure o before after)) given c.made.ensures.failure
