-- What an answer says of the text that was read.
use Rattle.std.specs.Prelude.{ℕ, List, Result, Ok, Err}
use Rattle.zx_text.specs.Files.{Version}
use Rattle.zx_text.specs.BadLines.{IsFirstBad}
use Rattle.zx_text.specs.Formats.{Format, IsWhole, IsHeaded}
use Rattle.zx_text.specs.Internal.Lined.{IsStopped}
use Rattle.zx_text.specs.declared.error.TextError.{TextError}
use Rattle.zx_text.specs.declared.error.TextError.TheVariants.{BadLine, TooLong, NoMemory}

-- of the lines behind the first one
abbrev pub IsLinesAnswer : {R : Type 0} (F : Format) → (R → F.State) → Version → List ℕ → Result R TextError → Type 0
IsLinesAnswer F state version text (Ok reader) = IsWhole F version text (state reader)
IsLinesAnswer F state version text (Err (BadLine line)) = IsStopped F version text line
IsLinesAnswer F state version text (Err TooLong) = ⊥
IsLinesAnswer F state version text (Err NoMemory) = Unit {0}

-- of a text that isn't too long
abbrev pub IsTextAnswer : {R : Type 0} (F : Format) → (R → F.State) → List ℕ → Result R TextError → Type 0
IsTextAnswer F state text (Ok reader) = IsHeaded F text (state reader)
IsTextAnswer F state text (Err (BadLine line)) = IsFirstBad F.IsFile text line
IsTextAnswer F state text (Err TooLong) = ⊥
IsTextAnswer F state text (Err NoMemory) = Unit {0}
