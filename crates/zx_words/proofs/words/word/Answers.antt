-- The call changes one field of the rule.
use Rattle.std.proofs.Common.{◌∙◌, ap, true}
use Rattle.clap.specs.Words.{Rule, rule_of}
use Rattle.zx_words.proofs.words.word.Goals as goal

pub returns-clause-rule : goal.returns-clause-rule
returns-clause-rule c =
    ap rule_of c.required.ensures ∙ ap (λ (rule : Rule). record rule { required = true }) c.new.ensures.rule
