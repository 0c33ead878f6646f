-- Which line of a text is bad: the first one with which no file begins, whatever texts are files.
use Rattle.std.specs.Prelude.{◌≡◌, ℕ, zero, suc, ◌+◌, ◌<◌, ◌≤◌, ◌==◌, if◌then◌else◌}
use Rattle.std.specs.Prelude.{List, [], ◌∷◌, ◌++◌, length, filter}

-- how many line feeds the text has
abbrev pub line_ends : List ℕ → ℕ
line_ends text = length (filter (λ byte. byte == 10) text)

-- so many lines of the text from its start on, each with its line feed, or the whole text where it has fewer
abbrev pub first_lines : ℕ → List ℕ → List ℕ
first_lines zero text = []
first_lines (suc n) [] = []
first_lines (suc n) (byte ∷ text) = byte ∷ first_lines (if byte == 10 then n else suc n) text

-- some file begins with these bytes
pub record CanBegin (IsFile : List ℕ → Type 0) (bytes : List ℕ) : Type 0 where
  pub rest : List ℕ
  pub file : IsFile (bytes ++ rest)

-- The lines before the one of this number, counted from 1, can begin a file; with it they can't. Where the text ends
-- before it, the text is no file.
pub record IsFirstBad (IsFile : List ℕ → Type 0) (text : List ℕ) (line : ℕ) : Type 0 where
  pub before : ℕ
  pub number : line ≡ before + 1
  pub are_there : before ≤ line_ends text
  pub can_begin : CanBegin IsFile (first_lines before text)
  pub unfit : before < line_ends text → CanBegin IsFile (first_lines line text) → ⊥
  pub not_whole : line_ends text ≡ before → IsFile text → ⊥
