-- The flag's value, or none.
use Rattle.std.proofs.Common.{◌≡◌, ◌∙◌, bytes_eq, codes, rules}
use Rattle.clap.specs.Words.{found_of, rows_of}
use Rattle.clap.proofs.WalkLemmas.{first_value-rows}
use Rattle.zx_words.proofs.WordLemmas.{flag_given, flag_missing}
use Rattle.zx_words.proofs.words.has_flag.Goals as goal

pub returns-in-Some : goal.returns-in-Some
returns-in-Some c =
    let is : c.eq.result ≡ bytes_eq c.in-Some.text.now (codes "true") = search rules in
    flag_given c.args.flag.now (rows_of (found_of c.args.given.now)) c.in-Some.text.now c.eq.result
    (c.in-Some.ensures ∙ first_value-rows (found_of c.args.given.now) c.args.flag.now) is

pub returns-in-None : goal.returns-in-None
returns-in-None c =
    flag_missing c.args.flag.now (rows_of (found_of c.args.given.now))
    (c.in-None.ensures ∙ first_value-rows (found_of c.args.given.now) c.args.flag.now)
