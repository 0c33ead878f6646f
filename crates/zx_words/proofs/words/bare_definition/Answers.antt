-- Each call changes one field of the command.
use Rattle.std.proofs.Common.{codes}
use Rattle.clap.specs.Words.{new_app}
use Rattle.clap.specs.declared.builder.command.Command.TheViews.{out-Command}
use Rattle.zx_words.proofs.WordLemmas.{bare_is}
use Rattle.zx_words.proofs.words.bare_definition.Goals as goal

pub returns : goal.returns
returns c =
    bare_is (out-Command c.new.result) (out-Command c.no_binary_name.result) (out-Command c.disable_help_flag.result)
    (out-Command c.disable_help_subcommand.result) (out-Command c.subcommand_required.result) (new_app (codes "zxopt"))
    c.new.ensures.app c.no_binary_name.ensures c.disable_help_flag.ensures c.disable_help_subcommand.ensures
    c.subcommand_required.ensures
