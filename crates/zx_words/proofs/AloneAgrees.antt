-- The words of a command that has none of its own: as `clap` takes them, and as they are defined.
use Rattle.std.proofs.Common.{◌≡◌, ◌∙◌, Bool, true, false, List, [], ◌∷◌, Option, None, Some, refl, sym, ap, subst, codes, option_and_then}
use Rattle.std.proofs.lemmas.Slice.Eq.{bytes_eq-Decides}
use Rattle.clap.specs.Walk.{Row, Text, nothing_held, walked}
use Rattle.clap.specs.Simple.{Shape, new_app}
use Rattle.clap.proofs.OnLiterals.{clap_on_literals}
use Rattle.zx_words.specs.declared.words.Command.{Command}
use Rattle.zx_words.specs.Command.{alone, is_separator, without_end}
use Rattle.zx_words.specs.CommandLine.{command_by}
use Rattle.zx_words.proofs.Levels.{between, level, none_at, one_word, other_word, stray_turn, trailing_next}
use Rattle.zx_words.proofs.OptAgrees.{kept, leaf}

-- the command's shape as it is built
abbrev pub alone_leaf : Text → Shape
alone_leaf name = leaf (new_app name).top

abbrev pub by_name : Text → Option (List Row) → Option Command
by_name name = option_and_then (λ rows. command_by (Some (name, rows)))

module _ (name : Text) (command : Command) (is : command_by (Some (name, [])) ≡ Some command) where
  abbrev IsRead : List Text → Type 0
  IsRead words = by_name name (level (alone_leaf name) (between nothing_held 1 false) words) ≡ alone command (without_end words)

  no_words : IsRead []
  unfolding clap_on_literals
  no_words = is

  separator : (rest : List Text) → IsRead (codes "--" ∷ rest)
  unfolding walked clap_on_literals
  separator [] = ap (by_name name) (one_word (alone_leaf name) (between nothing_held 1 false) (codes "--") []) ∙ is
  separator (next ∷ rest) =
      ap (by_name name) (one_word (alone_leaf name) (between nothing_held 1 false) (codes "--") (next ∷ rest)
      ∙ trailing_next (alone_leaf name) nothing_held 1 next rest)

  other : (word : Text) (rest : List Text) → is_separator word ≡ false → IsRead (word ∷ rest)
  other word rest no_separator =
      let fault = stray_turn (alone_leaf name) [] nothing_held 1 word
      (other_word (alone_leaf name) [] [] None word 1 refl no_separator (λ x. refl) (λ long v e. tt)) tt in
      ap (by_name name) (one_word (alone_leaf name) (between nothing_held 1 false) word rest ∙ none_at _ _ fault)
      ∙ ap (alone command) (sym (kept word rest no_separator))

  pub alone_agrees : (words : List Text) → IsRead words
  alone_agrees [] = no_words
  alone_agrees (word ∷ rest) = go (is_separator word) refl
    where
      go : (b : Bool) → is_separator word ≡ b → IsRead (word ∷ rest)
      go true same = subst (λ w. IsRead (w ∷ rest)) (sym ((bytes_eq-Decides word (codes "--")).0 same)) (separator rest)
      go false same = other word rest same
