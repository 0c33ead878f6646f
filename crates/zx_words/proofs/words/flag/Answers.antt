-- Each call changes one field of the rule.
use Rattle.std.proofs.Common.{◌∙◌, ap, Some}
use Rattle.clap.specs.Words.{Rule, rule_of}
use Rattle.clap.specs.declared.builder.action.ArgAction.TheVariants.{SetTrue}
use Rattle.clap.specs.declared.builder.arg.Arg.{Arg}
use Rattle.zx_words.proofs.words.flag.Goals as goal

pub returns-clause-rule : goal.returns-clause-rule
returns-clause-rule c =
    ap rule_of c.action.ensures
    ∙ ap (λ (arg : Arg). record (rule_of arg) { action = Some SetTrue }) c.long.ensures
    ∙ ap (λ (rule : Rule). record rule { long = Some c.args.name.now; action = Some SetTrue }) c.new.ensures.rule
