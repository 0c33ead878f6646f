-- The command line as `clap` is told of it: the subcommands `opt`, which has three flags, `gen`, which has three
-- words, and those that have no words of their own; and what its matches mean.
use Rattle.std.specs.Prelude.{◌-◌, ◌^◌, ℕ, Bool, true, false, List, codes}
use Rattle.std.specs.Prelude.{Option, None, Some, if◌then◌else◌, nat_le, option_and_then}
use Rattle.std.specs.Option.{option_map_or}
use Rattle.std.specs.Str.{bytes_eq}
use Rattle.clap.specs.Words.{App, Row, Rule, fault_of, first_of, new_app, new_rule}
use Rattle.clap.specs.Words.{subcommand_of, with_rule, with_subcommand}
use Rattle.clap.specs.Walk.{is_empty}
use Rattle.clap.specs.Simple.{on_top}
use Rattle.clap.specs.declared.builder.action.ArgAction.TheVariants.{SetTrue}
use Rattle.zx_words.specs.Command.{Text, numeral_in, ◌>>=◌}
use Rattle.zx_words.specs.declared.words.Command.{Command}
use Rattle.zx_words.specs.declared.words.Command.TheVariants.{Optimise, Reduce, Flow, Graph, Compile}
use Rattle.zx_words.specs.declared.words.Command.TheVariants.{Teleport, Same, Generate}

-- ---- the command line, as it is defined

-- a flag, which may be given once
abbrev pub flag_rule : Text → Rule
flag_rule name = record (new_rule name) { long = Some name; action = Some SetTrue }

-- a word that has to be there
abbrev pub word_rule : Text → Rule
word_rule name = record (new_rule name) { required = true }

abbrev pub opt_app : App
opt_app = with_rule (with_rule (with_rule (new_app (codes "opt")) (flag_rule (codes "best")))
    (flag_rule (codes "report"))) (flag_rule (codes "scalar"))

abbrev pub gen_app : App
gen_app = with_rule (with_rule (with_rule (new_app (codes "gen")) (word_rule (codes "seed")))
    (word_rule (codes "qubits"))) (word_rule (codes "gates"))

-- the program's name isn't among the words, and help is no part of them
abbrev pub bare : App → App
bare = on_top (λ shape. record shape {
  no_binary_name = true;
  disable_help_flag = true;
  disable_help_subcommand = true;
  subcommand_required = true;
})

unfoldable pub zxopt_app : App
zxopt_app =
    let with_gen = with_subcommand (with_subcommand (bare (new_app (codes "zxopt"))) opt_app.top) gen_app.top in
    let with_reduce = with_subcommand with_gen (new_app (codes "reduce")).top in
    let with_flow = with_subcommand with_reduce (new_app (codes "flow")).top in
    let with_graph = with_subcommand with_flow (new_app (codes "graph")).top in
    let with_compile = with_subcommand with_graph (new_app (codes "compile")).top in
    let with_teleport = with_subcommand with_compile (new_app (codes "teleport")).top in
    with_subcommand with_teleport (new_app (codes "same")).top

-- ---- what its matches mean

-- whether a flag is given
abbrev pub has_flag : Text → List Row → Bool
has_flag name rows = option_map_or (λ text. bytes_eq text (codes "true")) (first_of name rows) false

abbrev pub number_at : Text → ℕ → List Row → Option ℕ
number_at name most rows = option_and_then (numeral_in most) (first_of name rows)

-- the command of three numbers, where all are there
abbrev pub generation_from : Option ℕ → Option ℕ → Option ℕ → Option Command
generation_from seed_word qubits_word gates_word = do
  seed ← seed_word
  qubits ← qubits_word
  gates ← gates_word
  if nat_le 1 qubits then Some (Generate seed qubits gates) else None

abbrev pub generation_by : List Row → Option Command
generation_by rows = generation_from (number_at (codes "seed") (2 ^ 64 - 1) rows)
    (number_at (codes "qubits") 1024 rows) (number_at (codes "gates") 1000000 rows)

-- the command by the subcommand's name and matches
abbrev pub command_by : Option (Text × List Row) → Option Command
command_by None = None
command_by (Some p) =
    if bytes_eq p.0 (codes "opt")
    then Some (Optimise (has_flag (codes "best") p.1) (has_flag (codes "report") p.1) (has_flag (codes "scalar") p.1)) else
    if bytes_eq p.0 (codes "gen") then generation_by p.1 else
    if bytes_eq p.0 (codes "reduce") then Some Reduce else
    if bytes_eq p.0 (codes "flow") then Some Flow else
    if bytes_eq p.0 (codes "graph") then Some Graph else
    if bytes_eq p.0 (codes "compile") then Some Compile else
    if bytes_eq p.0 (codes "teleport") then Some Teleport else
    if bytes_eq p.0 (codes "same") then Some Same else None

-- ---- the command of words, as `clap` takes them: none where the command line has a fault in them
abbrev pub clap_command_of : List Text → Option Command
clap_command_of words =
    if is_empty (fault_of zxopt_app words) then command_by (subcommand_of zxopt_app words) else None
