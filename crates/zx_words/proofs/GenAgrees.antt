-- The words of `gen`: as `clap` takes them, and as they are defined.
use Rattle.std.proofs.Common.{◌≡◌, ◌∙◌, ◌<◌, ◌-◌, ◌^◌, ℕ, Bool, true, false, List, [], ◌∷◌, ◌++◌, Option, None, Some, inl, inr}
use Rattle.std.proofs.Common.{refl, sym, ap, subst, arith, codes, option_and_then}
use Rattle.std.proofs.lemmas.List.{append-nil}
use Rattle.std.proofs.lemmas.Fmt.{decimal_is_IsNumeral}
use Rattle.std.proofs.lemmas.Slice.Eq.{bytes_eq-Decides}
use Rattle.std.specs.Str.{bytes_eq}
use Rattle.std.specs.Str.Parse.{IsNumeral}
use Rattle.clap.specs.Walk.{Held, Row, Text, Walk, arg_by_index, nothing_held, to_positional, used, value, walked}
use Rattle.clap.specs.Simple.{Shape, filled}
use Rattle.clap.specs.Faults.{step_fault}
use Rattle.clap.proofs.OnLiterals.{clap_on_literals}
use Rattle.zx_words.specs.declared.words.Command.{Command}
use Rattle.zx_words.specs.Command.{generation_of, numeral_in, without_separator}
use Rattle.zx_words.specs.CommandLine.{command_by, gen_app, word_rule, generation_from}
use Rattle.zx_words.proofs.Levels.{between, first_fault, held, hyphen, level, none_at, one_word, other_word, plain_next}
use Rattle.zx_words.proofs.Levels.{trailing_next, unless_fault}
use Rattle.zx_words.proofs.OptAgrees.{leaf}
use Rattle.zx_words.proofs.WordLemmas.{no_number}

abbrev pub gen_leaf : Shape
gen_leaf = leaf gen_app.top

abbrev pub by_gen : Option (List Row) → Option Command
by_gen = option_and_then (λ rows. command_by (Some (codes "gen", rows)))

-- ---- the words so far
data Given : Type 0 where
  none : Given
  one : Text → Given
  two : Text → Text → Given
  three : Text → Text → Text → Given

abbrev words_of : Given → List Text
words_of none = []
words_of (one a) = a ∷ []
words_of (two a b) = a ∷ b ∷ []
words_of (three a b c) = a ∷ b ∷ c ∷ []

abbrev with_word : Text → Text → List Row → List Row
with_word name word = used (filled (word_rule name)) (word ∷ [])

-- the last word's argument is used once the next begins
abbrev rows_of : Given → List Row
rows_of none = []
rows_of (one a) = []
rows_of (two a b) = with_word (codes "seed") a []
rows_of (three a b c) = with_word (codes "qubits") b (with_word (codes "seed") a [])

abbrev pending_of : Given → Option (Text × List Text)
pending_of none = None
pending_of (one a) = Some (codes "seed", a ∷ [])
pending_of (two a b) = Some (codes "qubits", b ∷ [])
pending_of (three a b c) = Some (codes "gates", c ∷ [])

abbrev held_of : Given → Held
held_of g = held (rows_of g) (pending_of g)

abbrev position_of : Given → ℕ
position_of none = 1
position_of (one a) = 2
position_of (two a b) = 3
position_of (three a b c) = 4

abbrev at : Given → Bool → Walk
at g is_trailing = between (held_of g) (position_of g) is_trailing

-- what is left of further words, behind a separator or before one
abbrev left : Bool → List Text → List Text
left true words = words
left false words = without_separator words

-- ---- one word more
at_end : (is_trailing : Bool) (g : Given) → by_gen (level gen_leaf (at g is_trailing) []) ≡ generation_of (words_of g)
unfolding clap_on_literals
at_end is_trailing none = refl
at_end is_trailing (one a) = refl
at_end is_trailing (two a b) = refl
at_end is_trailing (three a b c) = refl

-- a word goes to the next positional, if there is one
abbrev placed : Given → Bool → Text → List Text → Option (List Row)
placed g is_trailing word rest = unless_fault (step_fault gen_leaf (position_of g) (held_of g) value)
    (level gen_leaf (to_positional gen_leaf.rules (arg_by_index gen_leaf.rules (position_of g)) word (at g is_trailing) (held_of g)) rest)

placed_word : (rest : List Text) (is_trailing : Bool)
    → ((g : Given) → by_gen (level gen_leaf (at g is_trailing) rest) ≡ generation_of (words_of g ++ left is_trailing rest))
    → (g : Given) (word : Text) → by_gen (placed g is_trailing word rest) ≡ generation_of (words_of g ++ word ∷ left is_trailing rest)
placed_word rest true more none word = more (one word)
placed_word rest true more (one a) word = more (two a word)
placed_word rest true more (two a b) word = more (three a b word)
placed_word rest true more (three a b c) word = refl
placed_word rest false more none word = more (one word)
placed_word rest false more (one a) word = more (two a word)
placed_word rest false more (two a b) word = more (three a b word)
placed_word rest false more (three a b c) word = refl

-- a word that begins with a hyphen is no number
no_minus : (most : ℕ) (rest : Text) → most < 2 ^ 64 → numeral_in most (45 ∷ rest) ≡ None
no_minus most rest small = no_number most (45 ∷ rest)
    (λ n le same.
    let numeral : IsNumeral 10 (45 ∷ rest) = subst (IsNumeral 10) (sym same) (decimal_is_IsNumeral n (omega (arith, le, small))).0 in
    omega (arith, numeral.1.0))

first_none : (a b c : Option ℕ) → a ≡ None → generation_from a b c ≡ None
first_none a b c e = ap (λ o. generation_from o b c) e

second_none : (a b c : Option ℕ) → b ≡ None → generation_from a b c ≡ None
second_none None b c e = refl
second_none (Some a) b c e = ap (λ o. generation_from (Some a) o c) e

third_none : (a b c : Option ℕ) → c ≡ None → generation_from a b c ≡ None
third_none None b c e = refl
third_none (Some a) None c e = refl
third_none (Some a) (Some b) c e = ap (generation_from (Some a) (Some b)) e

no_generation : (g : Given) (minus : Text) (rest : List Text) → generation_of (words_of g ++ (45 ∷ minus) ∷ rest) ≡ None
no_generation none minus [] = refl
no_generation none minus (q ∷ []) = refl
no_generation none minus (q ∷ r ∷ []) =
    first_none (numeral_in (2 ^ 64 - 1) (45 ∷ minus)) (numeral_in 1024 q) (numeral_in 1000000 r) (no_minus (2 ^ 64 - 1) minus (omega arith))
no_generation none minus (q ∷ r ∷ s ∷ rest) = refl
no_generation (one a) minus [] = refl
no_generation (one a) minus (r ∷ []) =
    second_none (numeral_in (2 ^ 64 - 1) a) (numeral_in 1024 (45 ∷ minus)) (numeral_in 1000000 r) (no_minus 1024 minus (omega arith))
no_generation (one a) minus (r ∷ s ∷ rest) = refl
no_generation (two a b) minus [] =
    third_none (numeral_in (2 ^ 64 - 1) a) (numeral_in 1024 b) (numeral_in 1000000 (45 ∷ minus)) (no_minus 1000000 minus (omega arith))
no_generation (two a b) minus (s ∷ rest) = refl
no_generation (three a b c) minus rest = refl

abbrev IsRead : Bool → Given → List Text → Type 0
IsRead is_trailing g words = by_gen (level gen_leaf (at g is_trailing) words) ≡ generation_of (words_of g ++ left is_trailing words)

separator : (g : Given) (rest : List Text) → IsRead true g rest → IsRead false g (codes "--" ∷ rest)
unfolding walked
separator g rest more = ap by_gen (one_word gen_leaf (at g false) (codes "--") rest) ∙ more

other : (g : Given) (word : Text) (rest : List Text) → bytes_eq word (codes "--") ≡ false → ((h : Given) → IsRead false h rest)
    → IsRead false g (word ∷ rest)
other g word rest is more =
    let kept : without_separator (word ∷ rest) ≡ word ∷ without_separator rest = rw is refl in
    let right : generation_of (words_of g ++ without_separator (word ∷ rest)) ≡ generation_of (words_of g ++ word ∷ without_separator rest) =
    ap (λ ws. generation_of (words_of g ++ ws)) kept in
    elim (other_word gen_leaf [] (rows_of g) (pending_of g) word (position_of g) refl is (λ x. refl) (λ name v e. tt)) [
      | inl p ↦
          ap by_gen (plain_next gen_leaf (held_of g) (position_of g) word rest p)
          ∙ placed_word rest false more g word ∙ sym right
      | inr fault ↦
          (let minus = hyphen gen_leaf [] (held_of g) word refl fault in
          ap by_gen (one_word gen_leaf (at g false) word rest ∙ none_at _ _ (first_fault _ _ fault))
          ∙ sym (right ∙ ap (λ w. generation_of (words_of g ++ w ∷ without_separator rest)) minus.1
          ∙ no_generation g minus.0 (without_separator rest)))
    ]

one_more : (rest : List Text) → ((is_trailing : Bool) (g : Given) → IsRead is_trailing g rest) → (is_trailing : Bool) (g : Given) (word : Text)
    → IsRead is_trailing g (word ∷ rest)
one_more rest more true g word =
    ap by_gen (trailing_next gen_leaf (held_of g) (position_of g) word rest) ∙ placed_word rest true (more true) g word
one_more rest more false g word = go (bytes_eq word (codes "--")) refl
  where
    go : (b : Bool) → bytes_eq word (codes "--") ≡ b → IsRead false g (word ∷ rest)
    go true is = subst (λ w. IsRead false g (w ∷ rest)) (sym ((bytes_eq-Decides word (codes "--")).0 is)) (separator g rest (more true g))
    go false is = other g word rest is (more false)

gen_reads : (words : List Text) (is_trailing : Bool) (g : Given) → IsRead is_trailing g words
gen_reads [] true g = at_end true g ∙ ap generation_of (sym (append-nil (words_of g)))
gen_reads [] false g = at_end false g ∙ ap generation_of (sym (append-nil (words_of g)))
gen_reads (word ∷ rest) is_trailing g = one_more rest (gen_reads rest) is_trailing g word

pub gen_agrees : (words : List Text)
    → by_gen (level gen_leaf (between nothing_held 1 false) words) ≡ generation_of (without_separator words)
gen_agrees words = gen_reads words false none
