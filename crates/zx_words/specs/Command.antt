-- The command that the words after the program's name give.
use Rattle.std.specs.Prelude.{◌≤◌, ◌-◌, ◌^◌, ◌&&◌, ℕ, Bool, true, not, List, [], ◌∷◌, map, codes, decimal}
use Rattle.std.specs.Prelude.{Option, None, Some, if◌then◌else◌, nat_le, option_and_then}
use Rattle.std.specs.List.{list_any}
use Rattle.std.specs.Str.{bytes_eq}
use Rattle.std.specs.Str.Parse.{digits_value}
use denote.Ref.{Bor}
use Rattle.zx_words.specs.declared.words.Command.{Command}
use Rattle.zx_words.specs.declared.words.Command.TheVariants.{Optimise, Reduce, Flow, Graph, Compile}
use Rattle.zx_words.specs.declared.words.Command.TheVariants.{Teleport, Same, Generate}

abbrev pub Text : Type 0
Text = List ℕ

-- whether one of the words is this text
abbrev pub has : Text → List Text → Bool
has text words = list_any (λ word. bytes_eq word text) words

abbrev pub is_separator : Text → Bool
is_separator word = bytes_eq word (codes "--")

-- `opt`, and flags

-- the words without a `--` that stands last
abbrev pub without_end : List Text → List Text
without_end [] = []
without_end (word ∷ []) = if is_separator word then [] else word ∷ []
without_end (word ∷ next ∷ rest) = word ∷ without_end (next ∷ rest)

abbrev pub flag_words : List Text
flag_words = codes "--best" ∷ codes "--report" ∷ codes "--scalar" ∷ []

-- each of the words is a flag, and none comes twice
abbrev pub are_flags : List Text → Bool
are_flags [] = true
are_flags (word ∷ rest) = has word flag_words && (not (has word rest) && are_flags rest)

abbrev pub optimisation_of : List Text → Option Command
optimisation_of words =
    if are_flags words
    then Some (Optimise (has (codes "--best") words) (has (codes "--report") words) (has (codes "--scalar") words))
    else None

-- `gen`, and three numbers

-- the words without the first `--`
abbrev pub without_separator : List Text → List Text
without_separator [] = []
without_separator (word ∷ rest) = if is_separator word then rest else word ∷ without_separator rest

-- the number whose decimal digits the text is, up to the greatest one
unfoldable pub numeral_in : ℕ → Text → Option ℕ
numeral_in most text =
    let number = digits_value 10 text in
    if nat_le number most && bytes_eq (decimal number) text then Some number else None

infixl 10 ◌>>=◌
abbrev pub ◌>>=◌ : {A B : Type 0} → Option A → (A → Option B) → Option B
o >>= f = option_and_then f o

-- a seed below 2^64, from 1 to 1,024 qubits, and at most 1,000,000 gates
abbrev pub generation_of : List Text → Option Command
generation_of (seed_word ∷ qubits_word ∷ gates_word ∷ []) = do
  seed ← numeral_in (2 ^ 64 - 1) seed_word
  qubits ← numeral_in 1024 qubits_word
  gates ← numeral_in 1000000 gates_word
  if nat_le 1 qubits then Some (Generate seed qubits gates) else None
generation_of _ = None

-- a command that has no words of its own
abbrev pub alone : Command → List Text → Option Command
alone command [] = Some command
alone command (word ∷ rest) = None

-- the command of words, none where they give no command
abbrev pub command_of : List Text → Option Command
command_of [] = None
command_of (word ∷ rest) =
    if bytes_eq word (codes "opt") then optimisation_of (without_end rest) else
    if bytes_eq word (codes "gen") then generation_of (without_separator rest) else
    if bytes_eq word (codes "reduce") then alone Reduce (without_end rest) else
    if bytes_eq word (codes "flow") then alone Flow (without_end rest) else
    if bytes_eq word (codes "graph") then alone Graph (without_end rest) else
    if bytes_eq word (codes "compile") then alone Compile (without_end rest) else
    if bytes_eq word (codes "teleport") then alone Teleport (without_end rest) else
    if bytes_eq word (codes "same") then alone Same (without_end rest) else None

-- the command of words that are borrowed
abbrev pub command_in : List (Bor Text) → Option Command
command_in words = command_of (map (λ word. word.now) words)

-- the numbers of a command are within their limits
abbrev pub IsWithinLimits : Option Command → Type 0
IsWithinLimits None = Unit {0}
IsWithinLimits (Some (Generate seed qubits gates)) = (1 ≤ qubits) × (qubits ≤ 1024) × (gates ≤ 1000000)
IsWithinLimits (Some command) = Unit {0}
