-- What the lines behind the first one of a text come to, as far as they are read.
use Rattle.std.specs.Prelude.{◌≡◌, ◌⊎◌, ℕ, ◌+◌, false, List, [], ◌∷◌, ◌++◌, length, Some}
use Rattle.std.specs.List.{flat_map}
use Rattle.zx_model.specs.Bits.{member}
use Rattle.zx_text.specs.Files.{Version}
use Rattle.zx_text.specs.Formats.{Format, run_of, spelled_line, IsRefused}

-- the text begins with lines that lead to this state, the next one has this number, the first one of the text counted
-- too, and the rest isn't read yet
pub record IsReadOn (F : Format) (version : Version) (text : List ℕ) (line : ℕ) (st : F.State)
    (rest : List ℕ) : Type 0 where
  pub lines : List F.Line
  pub cut : text ≡ flat_map (spelled_line F) lines ++ rest
  pub leads : run_of F version lines ≡ Some st
  pub number : line ≡ length lines + 2

-- the next line is none that leads anywhere
pub record IsUnfit (F : Format) (version : Version) (st : F.State) (rest : List ℕ) : Type 0 where
  pub line : List ℕ
  pub more : List ℕ
  pub cut : rest ≡ line ++ 10 ∷ more
  pub is_line : member 10 line ≡ false
  pub unfit : IsRefused F version st line

-- no line feed is left, and the lines aren't all of a file, or something stands behind them
pub record IsCutShort (F : Format) (st : F.State) (rest : List ℕ) : Type 0 where
  pub no_line : member 10 rest ≡ false
  pub not_over : rest ≡ [] → F.is_over st ≡ false

-- so many lines, the first one of the text counted too, are read, and what follows doesn't fit
pub record IsStopped (F : Format) (version : Version) (text : List ℕ) (line : ℕ) : Type 0 where
  pub state : F.State
  pub rest : List ℕ
  pub read : IsReadOn F version text line state rest
  pub why : IsUnfit F version state rest ⊎ IsCutShort F state rest
