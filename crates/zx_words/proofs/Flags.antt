-- Flags that are given once: the rows that `clap` holds of them, and the words that they are.
use Rattle.std.proofs.Common.{◌≡◌, ◌∙◌, ◌&&◌, ◌||◌, ◌++◌, Bool, true, false, not, List, [], ◌∷◌, Option, None, Some}
use Rattle.std.proofs.Common.{refl, sym, ap, codes, find, fold, map, option_and_then, if◌then◌else◌, slice_get}
use Rattle.std.proofs.lemmas.Bool.{and_from, and_parts, and_right, not_from_false, or_from, or_left, or_parts, or_right}
use Rattle.std.proofs.lemmas.List.{append-nil, map-append}
use Rattle.std.proofs.lemmas.List.Folds.{list_any-append}
use Rattle.std.proofs.lemmas.Slice.Eq.{bytes_eq-Decides}
use Rattle.std.specs.Option.{option_map_or}
use Rattle.std.specs.Str.{bytes_eq}
use Rattle.clap.specs.Walk.{Row, Rule, Text, at_row, has_row, more_values, reading_by, used, with_default, with_values}
use Rattle.clap.specs.Simple.{filled}
use Rattle.clap.specs.Kinds.{Kinds, or_else}
use Rattle.clap.specs.Faults.{defaults_fault}
use Rattle.clap.specs.declared.parser.matches.ValueSource.TheVariants.{CommandLine, DefaultValue}
use Rattle.zx_words.specs.Command.{are_flags, flag_words, has}
use Rattle.zx_words.specs.CommandLine.{flag_rule, has_flag}
use Rattle.zx_words.proofs.Levels.{not_said}

-- ---- flags by their names
abbrev pub word_of : Text → Text
word_of name = 45 ∷ 45 ∷ name

abbrev pub rule_of : Text → Rule
rule_of name = filled (flag_rule name)

-- what is held of a flag that was given
abbrev pub row_of : Text → Row
row_of name = record {
  id = name;
  values = codes "true" ∷ [];
  count = None;
  source = Some CommandLine;
  reading = reading_by (rule_of name);
}

abbrev pub rows_of : List Text → List Row
rows_of = map row_of

abbrev pub words_of : List Text → List Text
words_of = map word_of

-- ---- the rows of flags that were given
pub row_known : (name : Text) (seen : List Text) → has_row name (rows_of seen) ≡ has (word_of name) (words_of seen)
row_known name [] = refl
row_known name (n ∷ seen) = ap (λ b. bytes_eq n name || b) (row_known name seen)

abbrev is_true : Option Row → Bool
is_true o = option_map_or (λ text. bytes_eq text (codes "true")) (option_and_then (λ r. slice_get r.values 0) o) false

abbrev row_at : Text → List Row → Option Row
row_at name = find (λ r. bytes_eq r.id name)

pub flag_known : (name : Text) (seen : List Text) → has_flag name (rows_of seen) ≡ has (word_of name) (words_of seen)
flag_known name [] = refl
flag_known name (n ∷ seen) = met (bytes_eq n name) (row_at name (rows_of seen)) _ (flag_known name seen)
  where
    met : (b : Bool) (o : Option Row) (x : Bool) → is_true o ≡ x → is_true (if b then Some (row_of n) else o) ≡ (b || x)
    met true o x e = refl
    met false o x e = e

appended : (name : Text) (change : Row → List Row) (missing rows : List Row) → has_row name rows ≡ false
    → at_row name change missing rows ≡ rows ++ missing
appended name change missing [] none = refl
appended name change missing (r ∷ rows) none =
    let parts = or_parts (bytes_eq r.id name) (has_row name rows) none in
    rw parts.0 (ap (λ rs. r ∷ rs) (appended name change missing rows parts.1))

-- a flag that is new adds its row
pub used_rows : (name : Text) (seen : List Text) → has_row name (rows_of seen) ≡ false
    → used (rule_of name) [] (rows_of seen) ≡ rows_of (seen ++ name ∷ [])
used_rows name seen none =
    let rows = rows_of seen in
    let how = reading_by (rule_of name) in
    ap (with_values name how CommandLine (codes "true" ∷ [])) (appended name (λ r. []) [] rows none ∙ append-nil rows)
    ∙ appended name (more_values CommandLine (codes "true" ∷ [])) (row_of name ∷ []) rows none
    ∙ sym (map-append row_of seen (name ∷ []))

-- ---- the rows of flags by default
abbrev default_row_of : Text → Row
default_row_of name = record (row_of name) { values = codes "false" ∷ []; source = Some DefaultValue }

unset : (name : Text) (row : Row) → is_true (Some row) ≡ false → (rows : List Row)
    → has_flag name (rows ++ row ∷ []) ≡ has_flag name rows
unset name row e [] = last (bytes_eq row.id name)
  where
    last : (b : Bool) → is_true (if b then Some row else None) ≡ false
    last true = e
    last false = refl
unset name row e (r ∷ rows) = met (bytes_eq r.id name) (row_at name (rows ++ row ∷ [])) (row_at name rows) (unset name row e rows)
  where
    met : (b : Bool) (o p : Option Row) → is_true o ≡ is_true p
        → is_true (if b then Some r else o) ≡ is_true (if b then Some r else p)
    met true o p same = refl
    met false o p same = same

default_unset : (name other : Text) (rows : List Row) → has_flag name (with_default rows (rule_of other)) ≡ has_flag name rows
default_unset name other rows = go (has_row other rows) refl
  where
    go : (b : Bool) → has_row other rows ≡ b → has_flag name (with_default rows (rule_of other)) ≡ has_flag name rows
    go true is = rw is refl
    go false is =
        let row : Row = default_row_of other in
        rw is (ap (has_flag name) (appended other (more_values DefaultValue (codes "false" ∷ [])) (row ∷ []) rows is)
        ∙ unset name row refl rows)

pub defaults_unset : (name : Text) (names : List Text) (rows : List Row)
    → has_flag name (fold with_default rows (map rule_of names)) ≡ has_flag name rows
defaults_unset name [] rows = refl
defaults_unset name (n ∷ names) rows =
    defaults_unset name names (with_default rows (rule_of n)) ∙ default_unset name n rows

pub no_default_fault : (names : List Text) (rows : List Row) → defaults_fault rows (map rule_of names) ≡ []
unfolding defaults_fault
no_default_fault [] rows = refl
no_default_fault (n ∷ names) rows = none (has_row n rows || false) ∙ no_default_fault names (with_default rows (rule_of n))
  where
    rest : Kinds
    rest = defaults_fault (with_default rows (rule_of n)) (map rule_of names)

    none : (b : Bool) → or_else (if b then [] else []) rest ≡ rest
    none true = refl
    none false = refl

-- ---- words that are flags, each once
pub behind : (words rest : List Text) → are_flags rest ≡ false → are_flags (words ++ rest) ≡ false
behind [] rest e = e
behind (w ∷ words) rest e =
    and_right (has w flag_words) _ (and_right (not (has w (words ++ rest))) _ (behind words rest e))

pub twice : (word : Text) (words rest : List Text) → has word words ≡ true → are_flags (words ++ word ∷ rest) ≡ false
twice word [] rest again = cc
twice word (w ∷ words) rest again = go (bytes_eq w word) refl again (twice word words rest)
  where
    go : (b : Bool) → bytes_eq w word ≡ b → (b || has word words) ≡ true
        → (has word words ≡ true → are_flags (words ++ word ∷ rest) ≡ false) → are_flags (w ∷ words ++ word ∷ rest) ≡ false
    go true same later twice_later =
        let here : bytes_eq word w ≡ true = (bytes_eq-Decides word w).1 (sym ((bytes_eq-Decides w word).0 same)) in
        let more : has w (words ++ word ∷ rest) ≡ true =
        list_any-append (λ x. bytes_eq x w) words (word ∷ rest)
        ∙ or_right (has w words) _ (or_left (bytes_eq word w) (has w rest) here) in
        and_right (has w flag_words) _ (ap (λ b. not b && are_flags (words ++ word ∷ rest)) more)
    go false same later twice_later =
        and_right (has w flag_words) _ (and_right (not (has w (words ++ word ∷ rest))) _ (twice_later later))

pub once_more : (word : Text) → has word flag_words ≡ true → (words : List Text) → are_flags words ≡ true → has word words ≡ false
    → are_flags (words ++ word ∷ []) ≡ true
once_more word is [] flags new = rw is refl
once_more word is (w ∷ words) flags new =
    let first = and_parts (has w flag_words) (not (has w words) && are_flags words) flags in
    let next = and_parts (not (has w words)) (are_flags words) first.1 in
    let others = or_parts (bytes_eq w word) (has word words) new in
    let none : has w (words ++ word ∷ []) ≡ false =
    list_any-append (λ x. bytes_eq x w) words (word ∷ [])
    ∙ or_from (has w words) _ (not_true (has w words) next.0) (or_from (bytes_eq word w) false (not_said word w others.0) refl) in
    and_from (has w flag_words) _ first.0
    (and_from (not (has w (words ++ word ∷ []))) _ (not_from_false _ none) (once_more word is words next.1 others.1))
  where
    not_true : (b : Bool) → not b ≡ true → b ≡ false
    not_true true e = sym e
    not_true false e = refl
