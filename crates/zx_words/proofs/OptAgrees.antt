-- The words of `opt`: as `clap` takes them, and as they are defined.
use Rattle.std.proofs.Common.{◌≡◌, ◌∙◌, ◌&&◌, ◌++◌, Bool, true, false, List, [], ◌∷◌, Option, None, Some}
use Rattle.std.proofs.Common.{refl, sym, ap, codes, map, option_and_then, if◌then◌else◌, subst, true≢false}
use Rattle.std.proofs.lemmas.Bool.{or_parts}
use Rattle.std.proofs.lemmas.List.{append-nil, append_assoc, map-append}
use Rattle.std.proofs.lemmas.Slice.Eq.{bytes_eq-Decides}
use Rattle.std.specs.Str.{bytes_eq}
use Rattle.clap.specs.Lexer.{long_of}
use Rattle.clap.specs.Walk.{Held, Row, Rule, Text, Walk, arg_by_long, finished, has_row, nothing_held, used, walked}
use Rattle.clap.specs.Simple.{Shape, built_leaf, inherited, new_app}
use Rattle.clap.specs.Kinds.{or_else}
use Rattle.clap.specs.Faults.{long_fault}
use Rattle.clap.specs.declared.error.kind.ErrorKind.TheVariants.{ArgumentConflict}
use Rattle.clap.proofs.OnLiterals.{clap_on_literals}
use Rattle.zx_words.specs.declared.words.Command.{Command}
use Rattle.zx_words.specs.declared.words.Command.TheVariants.{Optimise}
use Rattle.zx_words.specs.Command.{are_flags, flag_words, has, is_separator, optimisation_of, without_end}
use Rattle.zx_words.specs.CommandLine.{bare, command_by, has_flag, opt_app}
use Rattle.zx_words.proofs.Flags.{behind, defaults_unset, flag_known, no_default_fault, once_more, row_known, rows_of}
use Rattle.zx_words.proofs.Flags.{rule_of, twice, used_rows, word_of, words_of}
use Rattle.zx_words.proofs.Levels.{IsFault, between, held, level, long_is, none_at, one_word, other_word, stray_turn, unless_fault}

-- a subcommand as it is built
abbrev pub leaf : Shape → Shape
leaf s = built_leaf (inherited (bare (new_app (codes "zxopt"))).top s)

abbrev pub opt_leaf : Shape
opt_leaf = leaf opt_app.top

abbrev pub by_opt : Option (List Row) → Option Command
by_opt = option_and_then (λ rows. command_by (Some (codes "opt", rows)))

abbrev names : List Text
names = codes "best" ∷ codes "report" ∷ codes "scalar" ∷ []

-- ---- behind flags that are seen, by their names in their order
abbrev at : List Text → Bool → Walk
at seen is_trailing = between (held (rows_of seen) None) 1 is_trailing

abbrev IsRead : List Text → List Text → Type 0
IsRead seen words = by_opt (level opt_leaf (at seen false) words) ≡ optimisation_of (words_of seen ++ without_end words)

abbrev IsReadBehind : List Text → Type 0
IsReadBehind words = (seen : List Text) → are_flags (words_of seen) ≡ true → IsRead seen words

no_flags : (words : List Text) → are_flags words ≡ false → None ≡ optimisation_of words
no_flags words e = rw e refl

stray : (seen rest : List Text) → are_flags rest ≡ false → None ≡ optimisation_of (words_of seen ++ rest)
stray seen rest e = no_flags (words_of seen ++ rest) (behind (words_of seen) rest e)

at_end : (is_trailing : Bool) (seen : List Text) → are_flags (words_of seen) ≡ true
    → by_opt (level opt_leaf (at seen is_trailing) []) ≡ optimisation_of (words_of seen ++ [])
unfolding clap_on_literals
at_end is_trailing seen flags =
    let rows : List Row = finished opt_leaf.rules (held (rows_of seen) None) in
    let told : (name : Text) → has_flag name rows ≡ has (word_of name) (words_of seen) =
    λ name. defaults_unset name names (rows_of seen) ∙ flag_known name seen in
    ap (λ kinds. by_opt (unless_fault (or_else kinds []) (Some rows))) (no_default_fault names (rows_of seen))
    ∙ (λ i. Some (Optimise (told (codes "best") i) (told (codes "report") i) (told (codes "scalar") i)))
    ∙ sym (rw flags refl)
    ∙ ap optimisation_of (sym (append-nil (words_of seen)))

-- ---- one flag more
pub kept : (word : Text) (rest : List Text) → is_separator word ≡ false → without_end (word ∷ rest) ≡ word ∷ without_end rest
kept word [] e = rw e refl
kept word (next ∷ rest) e = refl

-- the flag has a fault where it was seen before
abbrev IsTaken : Text → Type 0
IsTaken name = (seen rest : List Text) → level opt_leaf (at seen false) (word_of name ∷ rest)
    ≡ (if has_row name (rows_of seen) then None
    else level opt_leaf (between (held (used (rule_of name) [] (rows_of seen)) None) 1 false) rest)

conflict : (b : Bool) (o : Option (List Row))
    → unless_fault (or_else (or_else (if b && true then ArgumentConflict ∷ [] else []) []) []) o ≡ (if b then None else o)
conflict true o = refl
conflict false o = refl

best_taken : IsTaken (codes "best")
unfolding clap_on_literals
best_taken seen rest =
    one_word opt_leaf (at seen false) (codes "--best") rest ∙ conflict (has_row (codes "best") (rows_of seen)) _

report_taken : IsTaken (codes "report")
unfolding clap_on_literals
report_taken seen rest =
    one_word opt_leaf (at seen false) (codes "--report") rest ∙ conflict (has_row (codes "report") (rows_of seen)) _

scalar_taken : IsTaken (codes "scalar")
unfolding clap_on_literals
scalar_taken seen rest =
    one_word opt_leaf (at seen false) (codes "--scalar") rest ∙ conflict (has_row (codes "scalar") (rows_of seen)) _

one_flag : (name : Text) → IsTaken name → has (word_of name) flag_words ≡ true → is_separator (word_of name) ≡ false
    → (rest : List Text) → IsReadBehind rest → IsReadBehind (word_of name ∷ rest)
one_flag name taken is none rest more seen flags =
    ap by_opt (taken seen rest) ∙ go (has_row name (rows_of seen)) refl
    ∙ ap (λ words. optimisation_of (words_of seen ++ words)) (sym (kept (word_of name) rest none))
  where
    go : (b : Bool) → has_row name (rows_of seen) ≡ b
        → by_opt (if b then None else level opt_leaf (between (held (used (rule_of name) [] (rows_of seen)) None) 1 false) rest)
        ≡ optimisation_of (words_of seen ++ word_of name ∷ without_end rest)
    go true old =
        no_flags (words_of seen ++ word_of name ∷ without_end rest)
        (twice (word_of name) (words_of seen) (without_end rest) (sym (row_known name seen) ∙ old))
    go false new =
        let words : words_of (seen ++ name ∷ []) ≡ words_of seen ++ word_of name ∷ [] = map-append word_of seen (name ∷ []) in
        let still : are_flags (words_of (seen ++ name ∷ [])) ≡ true =
        ap are_flags words ∙ once_more (word_of name) is (words_of seen) flags (sym (row_known name seen) ∙ new) in
        ap (λ rows. by_opt (level opt_leaf (between (held rows None) 1 false) rest)) (used_rows name seen new)
        ∙ more (seen ++ name ∷ []) still
        ∙ ap (λ ws. optimisation_of (ws ++ without_end rest)) words
        ∙ ap optimisation_of (append_assoc (words_of seen) (word_of name ∷ []) (without_end rest))

-- ---- a word that is no flag
no_long : (c : List Rule) (again : Bool) (h : Held) (word name : Text) (v : Option Text) → long_of word ≡ Some (name, v)
    → (flags : List Text) → has word (words_of flags) ≡ false
    → IsFault (long_fault c again (arg_by_long (map rule_of flags) name) v h)
no_long c again h word name v long [] none = tt
no_long c again h word name v long (flag ∷ flags) none =
    let parts = or_parts (bytes_eq (word_of flag) word) (has word (words_of flags)) none in
    go (bytes_eq flag name) refl v long parts.0 (no_long c again h word name v long flags parts.1)
  where
    differs : bytes_eq flag name ≡ true → long_of word ≡ Some (name, None) → bytes_eq (word_of flag) word ≡ false → ⊥
    differs is bare_long other =
        let same : word_of flag ≡ word = ap word_of ((bytes_eq-Decides flag name).0 is) ∙ sym (long_is word name bare_long) in
        true≢false (sym ((bytes_eq-Decides (word_of flag) word).1 same) ∙ other)

    go : (b : Bool) → bytes_eq flag name ≡ b → (v : Option Text) → long_of word ≡ Some (name, v)
        → bytes_eq (word_of flag) word ≡ false → IsFault (long_fault c again (arg_by_long (map rule_of flags) name) v h)
        → IsFault (long_fault c again (arg_by_long (map rule_of (flag ∷ flags)) name) v h)
    go true is (Some text) long other later = rw is tt
    go true is None long other later = absurd (differs is long other)
    go false is v long other later = rw is later

one_other : (word : Text) → has word flag_words ≡ false → is_separator word ≡ false → (rest : List Text) → IsReadBehind (word ∷ rest)
one_other word none no_separator rest seen flags =
    let fault = stray_turn opt_leaf [] (held (rows_of seen) None) 1 word
    (other_word opt_leaf [] (rows_of seen) None word 1 refl no_separator (λ x. refl)
    (λ name v long. no_long opt_leaf.rules false (held (rows_of seen) None) word name v long names none)) tt in
    let no_flag : are_flags (word ∷ without_end rest) ≡ false = rw none refl in
    ap by_opt (one_word opt_leaf (at seen false) word rest ∙ none_at _ _ fault)
    ∙ stray seen (word ∷ without_end rest) no_flag
    ∙ ap (λ words. optimisation_of (words_of seen ++ words)) (sym (kept word rest no_separator))

one_separator : (rest : List Text) → IsReadBehind (codes "--" ∷ rest)
unfolding walked
one_separator [] seen flags = ap by_opt (one_word opt_leaf (at seen false) (codes "--") []) ∙ at_end true seen flags
one_separator (next ∷ rest) seen flags =
    ap by_opt (one_word opt_leaf (at seen false) (codes "--") (next ∷ rest) ∙ one_word opt_leaf (at seen true) next rest)
    ∙ stray seen (codes "--" ∷ without_end (next ∷ rest)) refl

-- ---- all words
spelled : (word text : Text) (rest : List Text) → bytes_eq text word ≡ true → IsReadBehind (text ∷ rest) → IsReadBehind (word ∷ rest)
spelled word text rest is h = subst (λ w. IsReadBehind (w ∷ rest)) ((bytes_eq-Decides text word).0 is) h

one_more : (rest : List Text) → IsReadBehind rest → (word : Text) → IsReadBehind (word ∷ rest)
one_more rest more word =
    go (bytes_eq (codes "--best") word) (bytes_eq (codes "--report") word) (bytes_eq (codes "--scalar") word)
    (is_separator word) refl refl refl refl
  where
    go : (b r s e : Bool) → bytes_eq (codes "--best") word ≡ b → bytes_eq (codes "--report") word ≡ r
        → bytes_eq (codes "--scalar") word ≡ s → is_separator word ≡ e → IsReadBehind (word ∷ rest)
    go true r s e is_best is_report is_scalar is_end =
        spelled word (codes "--best") rest is_best (one_flag (codes "best") best_taken refl refl rest more)
    go false true s e is_best is_report is_scalar is_end =
        spelled word (codes "--report") rest is_report (one_flag (codes "report") report_taken refl refl rest more)
    go false false true e is_best is_report is_scalar is_end =
        spelled word (codes "--scalar") rest is_scalar (one_flag (codes "scalar") scalar_taken refl refl rest more)
    go false false false true is_best is_report is_scalar is_end =
        subst (λ w. IsReadBehind (w ∷ rest)) (sym ((bytes_eq-Decides word (codes "--")).0 is_end)) (one_separator rest)
    go false false false false is_best is_report is_scalar is_end =
        one_other word (rw (is_best, is_report, is_scalar) refl) is_end rest

opt_reads : (words : List Text) → IsReadBehind words
opt_reads [] = at_end false
opt_reads (word ∷ rest) = one_more rest (opt_reads rest) word

pub opt_agrees : (words : List Text) → by_opt (level opt_leaf (between nothing_held 1 false) words) ≡ optimisation_of (without_end words)
opt_agrees words = opt_reads words [] refl
