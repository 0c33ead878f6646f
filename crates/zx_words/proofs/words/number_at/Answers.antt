-- The word's number, or none.
use Rattle.std.proofs.Common.{◌≡◌, ◌∙◌, None, rules}
use Rattle.clap.specs.Words.{found_of, rows_of}
use Rattle.clap.proofs.WalkLemmas.{first_value-rows}
use Rattle.zx_words.proofs.WordLemmas.{number_given, number_missing}
use Rattle.zx_words.proofs.words.number_at.Goals as goal

pub returns-in_err-get_str-clause-value : goal.returns-in_err-get_str-clause-value
returns-in_err-get_str-clause-value c =
    let none : c.from_residual.result ≡ None = search rules in
    none
    ∙ number_missing c.args.name.now c.args.most (rows_of (found_of c.args.given.now))
    (c.in_err-get_str.ensures ∙ first_value-rows (found_of c.args.given.now) c.args.name.now)

pub returns-clause-value : goal.returns-clause-value
returns-clause-value c =
    c.numeral_in.ensures.value
    ∙ number_given c.args.name.now c.args.most (rows_of (found_of c.args.given.now)) c.in_ok-get_str.field-0.now
    (c.in_ok-get_str.ensures ∙ first_value-rows (found_of c.args.given.now) c.args.name.now)
