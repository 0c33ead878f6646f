-- `clap` takes words for the command that is defined, whichever they are.
use Rattle.std.proofs.Common.{◌≡◌, ◌∙◌, suc, Bool, true, false, List, [], ◌∷◌, length, Option, None, Some}
use Rattle.std.proofs.Common.{refl, sym, ap, subst, arith, codes, option_and_then, if◌then◌else◌, is_some}
use Rattle.std.proofs.lemmas.Bool.{ne_eqb}
use Rattle.std.proofs.lemmas.Slice.Eq.{bytes_eq-Decides}
use Rattle.std.specs.Str.{bytes_eq}
use Rattle.clap.specs.Walk.{Row, Text, Walk, finished, idle, is_empty, nothing_held, rows_after, settled, subcommand_met, walk_from}
use Rattle.clap.specs.Simple.{App, built, entered, names_of, subcommand_of}
use Rattle.clap.specs.Kinds.{IsAmong, Kinds, or_else}
use Rattle.clap.specs.Faults.{check_fault, defaults_fault, entered_fault, fault_of, settle_fault, walk_fault}
use Rattle.clap.specs.declared.error.kind.ErrorKind.{ErrorKind}
use Rattle.clap.proofs.FaultLemmas.{stopped_fault}
use Rattle.clap.proofs.WalkLemmas.{walk_stopped}
use Rattle.clap.proofs.OnLiterals.{clap_on_literals}
use Rattle.zx_words.specs.declared.words.Command.{Command}
use Rattle.zx_words.specs.declared.words.Command.TheVariants.{Reduce, Flow, Graph, Compile, Teleport, Same}
use Rattle.zx_words.specs.Command.{command_of}
use Rattle.zx_words.specs.CommandLine.{zxopt_app, clap_command_of, command_by}
use Rattle.zx_words.proofs.Levels.{IsFault, between, level, not_said, other_word, first_fault, stray_turn, unless_fault}
use Rattle.zx_words.proofs.OptAgrees.{by_opt, opt_agrees, opt_leaf}
use Rattle.zx_words.proofs.AloneAgrees.{alone_agrees, alone_leaf, by_name}
use Rattle.zx_words.proofs.GenAgrees.{by_gen, gen_agrees, gen_leaf}

pub no_command : (kinds : Kinds) (o : Option Command) → IsFault kinds → (if is_empty kinds then o else None) ≡ None
no_command [] o fault = absurd fault
no_command (k ∷ ks) o fault =
    ap (λ b. if b then o else None) (ne_eqb (suc (length ks)) 0 (λ e. absurd (omega arith)))

-- the command by a walk over all words, and the faults of that walk
abbrev by_walk : App → Walk → Kinds → Option Command
by_walk a w kinds =
    if is_empty (or_else kinds (or_else (entered_fault a w.stopped) (or_else (settle_fault a.top.rules a.top.args_override_self w.held)
    (or_else (defaults_fault (settled a.top.rules w.held).rows a.top.rules)
    (check_fault a.top (finished a.top.rules w.held) (is_some (entered a w.stopped)))))))
    then command_by (entered a w.stopped) else None

-- the command of a subcommand's words, where they have no fault
no_word : IsFault (fault_of zxopt_app [])
unfolding zxopt_app clap_on_literals
no_word = tt

below : (kinds : Kinds) (name : Text) (rows : List Row)
    → (if is_empty (or_else kinds []) then command_by (Some (name, rows)) else None)
    ≡ option_and_then (λ rs. command_by (Some (name, rs))) (unless_fault kinds (Some rows))
below [] name rows = refl
below (k ∷ ks) name rows = no_command (k ∷ ks) _ tt

opt_words : (rest : List Text) → clap_command_of (codes "opt" ∷ rest) ≡ by_opt (level opt_leaf (between nothing_held 1 false) rest)
unfolding zxopt_app clap_on_literals
opt_words rest =
    let a = built zxopt_app in
    (λ i. by_walk a (sym (walk_stopped a.top.rules (names_of a) (walk_from nothing_held) (codes "opt") [] rest) i)
    (stopped_fault a.top (names_of a) (walk_from nothing_held) (codes "opt", []) rest i))
    ∙ below (entered_fault a (Some (codes "opt", rest))) (codes "opt") (rows_after opt_leaf.rules [] rest)

gen_words : (rest : List Text) → clap_command_of (codes "gen" ∷ rest) ≡ by_gen (level gen_leaf (between nothing_held 1 false) rest)
unfolding zxopt_app clap_on_literals
gen_words rest =
    let a = built zxopt_app in
    (λ i. by_walk a (sym (walk_stopped a.top.rules (names_of a) (walk_from nothing_held) (codes "gen") [] rest) i)
    (stopped_fault a.top (names_of a) (walk_from nothing_held) (codes "gen", []) rest i))
    ∙ below (entered_fault a (Some (codes "gen", rest))) (codes "gen") (rows_after gen_leaf.rules [] rest)

reduce_words : (rest : List Text)
    → clap_command_of (codes "reduce" ∷ rest) ≡ by_name (codes "reduce") (level (alone_leaf (codes "reduce")) (between nothing_held 1 false) rest)
unfolding zxopt_app clap_on_literals
reduce_words rest =
    let a = built zxopt_app in
    (λ i. by_walk a (sym (walk_stopped a.top.rules (names_of a) (walk_from nothing_held) (codes "reduce") [] rest) i)
    (stopped_fault a.top (names_of a) (walk_from nothing_held) (codes "reduce", []) rest i))
    ∙ below (entered_fault a (Some (codes "reduce", rest))) (codes "reduce") (rows_after (alone_leaf (codes "reduce")).rules [] rest)

flow_words : (rest : List Text)
    → clap_command_of (codes "flow" ∷ rest) ≡ by_name (codes "flow") (level (alone_leaf (codes "flow")) (between nothing_held 1 false) rest)
unfolding zxopt_app clap_on_literals
flow_words rest =
    let a = built zxopt_app in
    (λ i. by_walk a (sym (walk_stopped a.top.rules (names_of a) (walk_from nothing_held) (codes "flow") [] rest) i)
    (stopped_fault a.top (names_of a) (walk_from nothing_held) (codes "flow", []) rest i))
    ∙ below (entered_fault a (Some (codes "flow", rest))) (codes "flow") (rows_after (alone_leaf (codes "flow")).rules [] rest)

graph_words : (rest : List Text)
    → clap_command_of (codes "graph" ∷ rest) ≡ by_name (codes "graph") (level (alone_leaf (codes "graph")) (between nothing_held 1 false) rest)
unfolding zxopt_app clap_on_literals
graph_words rest =
    let a = built zxopt_app in
    (λ i. by_walk a (sym (walk_stopped a.top.rules (names_of a) (walk_from nothing_held) (codes "graph") [] rest) i)
    (stopped_fault a.top (names_of a) (walk_from nothing_held) (codes "graph", []) rest i))
    ∙ below (entered_fault a (Some (codes "graph", rest))) (codes "graph") (rows_after (alone_leaf (codes "graph")).rules [] rest)

compile_words : (rest : List Text)
    → clap_command_of (codes "compile" ∷ rest) ≡ by_name (codes "compile") (level (alone_leaf (codes "compile")) (between nothing_held 1 false) rest)
unfolding zxopt_app clap_on_literals
compile_words rest =
    let a = built zxopt_app in
    (λ i. by_walk a (sym (walk_stopped a.top.rules (names_of a) (walk_from nothing_held) (codes "compile") [] rest) i)
    (stopped_fault a.top (names_of a) (walk_from nothing_held) (codes "compile", []) rest i))
    ∙ below (entered_fault a (Some (codes "compile", rest))) (codes "compile") (rows_after (alone_leaf (codes "compile")).rules [] rest)

same_words : (rest : List Text)
    → clap_command_of (codes "same" ∷ rest) ≡ by_name (codes "same") (level (alone_leaf (codes "same")) (between nothing_held 1 false) rest)
unfolding zxopt_app clap_on_literals
same_words rest =
    let a = built zxopt_app in
    (λ i. by_walk a (sym (walk_stopped a.top.rules (names_of a) (walk_from nothing_held) (codes "same") [] rest) i)
    (stopped_fault a.top (names_of a) (walk_from nothing_held) (codes "same", []) rest i))
    ∙ below (entered_fault a (Some (codes "same", rest))) (codes "same") (rows_after (alone_leaf (codes "same")).rules [] rest)

teleport_words : (rest : List Text)
    → clap_command_of (codes "teleport" ∷ rest) ≡ by_name (codes "teleport") (level (alone_leaf (codes "teleport")) (between nothing_held 1 false) rest)
unfolding zxopt_app clap_on_literals
teleport_words rest =
    let a = built zxopt_app in
    (λ i. by_walk a (sym (walk_stopped a.top.rules (names_of a) (walk_from nothing_held) (codes "teleport") [] rest) i)
    (stopped_fault a.top (names_of a) (walk_from nothing_held) (codes "teleport", []) rest i))
    ∙ below (entered_fault a (Some (codes "teleport", rest))) (codes "teleport") (rows_after (alone_leaf (codes "teleport")).rules [] rest)

-- ---- a first word that is no subcommand
only_separator : (rest : List Text) → IsFault (fault_of zxopt_app (codes "--" ∷ rest))
unfolding zxopt_app clap_on_literals
only_separator [] = tt
only_separator (next ∷ rest) = tt

no_subcommand : (word : Text) (rest : List Text) → bytes_eq word (codes "opt") ≡ false
    → bytes_eq word (codes "gen") ≡ false → bytes_eq word (codes "reduce") ≡ false
    → bytes_eq word (codes "flow") ≡ false → bytes_eq word (codes "graph") ≡ false
    → bytes_eq word (codes "compile") ≡ false → bytes_eq word (codes "teleport") ≡ false
    → bytes_eq word (codes "same") ≡ false
    → bytes_eq word (codes "--") ≡ false → IsFault (fault_of zxopt_app (word ∷ rest))
unfolding zxopt_app walk_fault
no_subcommand word rest not_opt not_gen not_reduce not_flow not_graph not_compile not_teleport not_same not_end =
    let a = built zxopt_app in
    let free : subcommand_met (names_of a) idle word ≡ None =
    rw (
      not_said (codes "opt") word not_opt,
      not_said (codes "gen") word not_gen,
      not_said (codes "reduce") word not_reduce,
      not_said (codes "flow") word not_flow,
      not_said (codes "graph") word not_graph,
      not_said (codes "compile") word not_compile,
      not_said (codes "teleport") word not_teleport,
      not_said (codes "same") word not_same,
    ) refl in
    first_fault _ _ (first_fault _ _
    (stray_turn a.top (names_of a) nothing_held 1 word
    (other_word a.top (names_of a) [] None word 1 free not_end (λ x. refl) (λ name v e. tt)) tt))

-- ---- all words
pub clap_agrees : (words : List Text) → clap_command_of words ≡ command_of words
clap_agrees [] = no_command (fault_of zxopt_app []) (command_by (subcommand_of zxopt_app [])) no_word
clap_agrees (word ∷ rest) =
    go (bytes_eq word (codes "opt")) (bytes_eq word (codes "gen")) (bytes_eq word (codes "reduce")) (bytes_eq word (codes "flow"))
    (bytes_eq word (codes "graph")) (bytes_eq word (codes "compile")) (bytes_eq word (codes "teleport")) (bytes_eq word (codes "same"))
    (bytes_eq word (codes "--")) refl refl refl refl refl refl refl refl refl
  where
    said : (text : Text) → bytes_eq word text ≡ true → clap_command_of (text ∷ rest) ≡ command_of (text ∷ rest)
        → clap_command_of (word ∷ rest) ≡ command_of (word ∷ rest)
    said text is h = subst (λ w. clap_command_of (w ∷ rest) ≡ command_of (w ∷ rest)) (sym ((bytes_eq-Decides word text).0 is)) h

    none : (text : Text) → IsFault (fault_of zxopt_app (text ∷ rest)) → clap_command_of (text ∷ rest) ≡ None
    none text = no_command (fault_of zxopt_app (text ∷ rest)) (command_by (subcommand_of zxopt_app (text ∷ rest)))

    go : (opt_b gen_b reduce_b flow_b graph_b compile_b teleport_b same_b end_b : Bool)
        → bytes_eq word (codes "opt") ≡ opt_b
        → bytes_eq word (codes "gen") ≡ gen_b
        → bytes_eq word (codes "reduce") ≡ reduce_b
        → bytes_eq word (codes "flow") ≡ flow_b
        → bytes_eq word (codes "graph") ≡ graph_b
        → bytes_eq word (codes "compile") ≡ compile_b
        → bytes_eq word (codes "teleport") ≡ teleport_b
        → bytes_eq word (codes "same") ≡ same_b
        → bytes_eq word (codes "--") ≡ end_b
        → clap_command_of (word ∷ rest) ≡ command_of (word ∷ rest)
    go true gen_b reduce_b flow_b graph_b compile_b teleport_b same_b end_b is_opt is_gen is_reduce is_flow is_graph is_compile is_teleport is_same is_end =
        said (codes "opt") is_opt (opt_words rest ∙ opt_agrees rest)
    go false true reduce_b flow_b graph_b compile_b teleport_b same_b end_b is_opt is_gen is_reduce is_flow is_graph is_compile is_teleport is_same is_end =
        said (codes "gen") is_gen (gen_words rest ∙ gen_agrees rest)
    go false false true flow_b graph_b compile_b teleport_b same_b end_b is_opt is_gen is_reduce is_flow is_graph is_compile is_teleport is_same is_end =
        said (codes "reduce") is_reduce (reduce_words rest ∙ alone_agrees (codes "reduce") Reduce refl rest)
    go false false false true graph_b compile_b teleport_b same_b end_b is_opt is_gen is_reduce is_flow is_graph is_compile is_teleport is_same is_end =
        said (codes "flow") is_flow (flow_words rest ∙ alone_agrees (codes "flow") Flow refl rest)
    go false false false false true compile_b teleport_b same_b end_b is_opt is_gen is_reduce is_flow is_graph is_compile is_teleport is_same is_end =
        said (codes "graph") is_graph (graph_words rest ∙ alone_agrees (codes "graph") Graph refl rest)
    go false false false false false true teleport_b same_b end_b is_opt is_gen is_reduce is_flow is_graph is_compile is_teleport is_same is_end =
        said (codes "compile") is_compile (compile_words rest ∙ alone_agrees (codes "compile") Compile refl rest)
    go false false false false false false true same_b end_b is_opt is_gen is_reduce is_flow is_graph is_compile is_teleport is_same is_end =
        said (codes "teleport") is_teleport (teleport_words rest ∙ alone_agrees (codes "teleport") Teleport refl rest)
    go false false false false false false false true end_b is_opt is_gen is_reduce is_flow is_graph is_compile is_teleport is_same is_end =
        said (codes "same") is_same (same_words rest ∙ alone_agrees (codes "same") Same refl rest)
    go false false false false false false false false true is_opt is_gen is_reduce is_flow is_graph is_compile is_teleport is_same is_end =
        said (codes "--") is_end (none (codes "--") (only_separator rest))
    go false false false false false false false false false is_opt is_gen is_reduce is_flow is_graph is_compile is_teleport is_same is_end =
        let right : command_of (word ∷ rest) ≡ None = rw (is_opt, is_gen, is_reduce, is_flow, is_graph, is_compile, is_teleport, is_same) refl in
        none word (no_subcommand word rest is_opt is_gen is_reduce is_flow is_graph is_compile is_teleport is_same is_end) ∙ sym right

-- ---- what a parse gives
pub refused : (k : ErrorKind) (a : App) (words : List Text) → a ≡ zxopt_app → IsAmong k (fault_of a words)
    → None ≡ command_of words
refused k a words is among =
    sym (no_command (fault_of zxopt_app words) (command_by (subcommand_of zxopt_app words)) (fault k _ (rw is at among)))
    ∙ clap_agrees words
  where
    fault : (k : ErrorKind) (kinds : Kinds) → IsAmong k kinds → IsFault kinds
    fault k [] among = absurd among
    fault k (x ∷ kinds) among = tt

pub taken : (a : App) (words : List Text) → a ≡ zxopt_app → fault_of a words ≡ []
    → command_by (subcommand_of a words) ≡ command_of words
taken a words is none =
    let here : fault_of zxopt_app words ≡ [] = rw is at none in
    ap (λ x. command_by (subcommand_of x words)) is
    ∙ sym (ap (λ ks. if is_empty ks then command_by (subcommand_of zxopt_app words) else None) here)
    ∙ clap_agrees words
