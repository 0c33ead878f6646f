-- A kind of files as they are read: line by line, each leading from one state to another.
use Rattle.std.specs.Prelude.{◌≡◌, ◌≢◌, ℕ, ◌+◌, ◌≤◌, ◌^◌, Bool, true, ◌==◌, if◌then◌else◌, ltb, get_or}
use Rattle.std.specs.Prelude.{List, [], ◌∷◌, ◌++◌, codes, Option, None, Some}
use Rattle.std.specs.List.{list_all, flat_map, join_with_byte}
use Rattle.zx_text.specs.Files.{Version, One, Two}
use Rattle.zx_text.specs.Pieces.{pieces}

pub record Format : Type 1 where
  -- what a line says behind the first one, its parts, and whether its numbers fit the code's own
  pub Line : Type 0
  pub parts : Line → List (List ℕ)
  pub is_small : Line → Bool
  -- what the lines so far say; a line that doesn't fit leads nowhere
  pub State : Type 0
  pub begun : State
  pub step : Version → State → Line → Option State
  pub is_over : State → Bool
  -- how many things there are so far that lines name by numbers
  pub size : State → ℕ
  -- the first line of a version, without its line feed
  pub word : Version → List ℕ
  pub IsFile : List ℕ → Type 0

-- parts are separated by one space, and a line ends with a line feed
abbrev pub text_of : (F : Format) → F.Line → List ℕ
text_of F line = join_with_byte 32 (F.parts line)

abbrev pub spelled_line : (F : Format) → F.Line → List ℕ
spelled_line F line = text_of F line ++ codes "\n"

-- what steps lead to, one after the other
abbrev pub run : {S L : Type 0} → (S → L → Option S) → Option S → List L → Option S
run step st [] = st
run step None (l ∷ ls) = None
run step (Some st) (l ∷ ls) = run step (step st l) ls

abbrev pub run_of : (F : Format) → Version → List F.Line → Option F.State
run_of F version lines = run (F.step version) (Some F.begun) lines

-- a line of these parts leads from one state to another
pub record IsTaken (F : Format) (version : Version) (st : F.State) (line : List ℕ) (next : F.State) : Type 0 where
  pub said : F.Line
  pub small : F.is_small said ≡ true
  pub parts : F.parts said ≡ pieces 32 line
  pub leads : F.step version st said ≡ Some next

-- no line of these parts leads anywhere
abbrev pub IsRefused : (F : Format) → Version → F.State → List ℕ → Type 0
IsRefused F version st line =
    (l : F.Line) → F.is_small l ≡ true → F.parts l ≡ pieces 32 line → F.step version st l ≡ None

-- the text behind the first line is lines that lead to this end
pub record IsWhole (F : Format) (version : Version) (text : List ℕ) (end : F.State) : Type 0 where
  pub lines : List F.Line
  pub bytes : text ≡ flat_map (spelled_line F) lines
  pub leads : run_of F version lines ≡ Some end
  pub over : F.is_over end ≡ true

-- the same of a text with its first line
pub record IsHeaded (F : Format) (text : List ℕ) (end : F.State) : Type 0 where
  pub version : Version
  pub behind : List ℕ
  pub first : text ≡ F.word version ++ 10 ∷ behind
  pub whole : IsWhole F version behind end

-- lines lead from here to an end
pub record GoesOn (F : Format) (version : Version) (st : F.State) : Type 0 where
  pub more : List F.Line
  pub end : F.State
  pub leads : run (F.step version) (Some st) more ≡ Some end
  pub over : F.is_over end ≡ true

-- neither a space nor a line feed is in it
abbrev pub is_plain : List ℕ → Bool
is_plain part = list_all (ltb 32) part

-- the version that a first line names with its digit
abbrev pub version_in : List ℕ → Version
version_in line = if get_or line 4 0 == 49 then One else Two

-- what makes the lines of a file the only ones with its bytes, and a file of all lines that lead to an end
pub record IsFormat (F : Format) : Type 0 where
  pub read : List (List ℕ) → F.Line
  pub read_parts : (l : F.Line) → F.is_small l ≡ true → read (F.parts l) ≡ l
  pub some_part : (l : F.Line) → F.parts l ≢ []
  pub plain_parts : (l : F.Line) → F.is_small l ≡ true → list_all is_plain (F.parts l) ≡ true
  pub plain_word : (version : Version) → list_all (ltb 10) (F.word version) ≡ true
  pub told_apart : (version : Version) → version_in (F.word version) ≡ version
  pub none_yet : F.size F.begun ≡ 0
  pub grows :
      (version : Version) (st : F.State) (l : F.Line) (next : F.State) → F.step version st l ≡ Some next
      → F.size next ≤ F.size st + 1
  pub small :
      (version : Version) (so_far : List F.Line) (st : F.State) (l : F.Line) (next : F.State)
      → run_of F version so_far ≡ Some st → F.size st ≤ 2 ^ 32 → F.step version st l ≡ Some next → F.is_small l ≡ true
  pub goes_on :
      (version : Version) (so_far : List F.Line) (st : F.State) → run_of F version so_far ≡ Some st
      → GoesOn F version st
  pub is_file : (text : List ℕ) (end : F.State) → IsHeaded F text end → F.IsFile text
  pub has_end : (text : List ℕ) → F.IsFile text → (end : F.State) × IsHeaded F text end
