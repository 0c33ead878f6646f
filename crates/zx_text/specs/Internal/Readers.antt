-- What the reader's values stand for.
use Rattle.std.specs.Prelude.{◌≡◌, Bool, true, false, Option, Result, Ok, Err, IfOk}
use Rattle.std.specs.Option.{option_map}
use Rattle.zx_text.specs.Reading.{Wanted, AnyFile, OnlyWithFlow}
use Rattle.zx_text.specs.Internal.Stepping.{LinesSoFar, InGraph, AtFlow, InSets, Over, only_if}
use Rattle.zx_text.specs.declared.reader.Reader.{Reader}
use Rattle.zx_text.specs.declared.reader.Reader.TheVariants as reader

-- which files a reader is for
abbrev pub wanted_by : Bool → Wanted
wanted_by true = OnlyWithFlow
wanted_by false = AnyFile

-- what its lines so far say
abbrev pub lines_so_far : Reader → LinesSoFar
lines_so_far (reader.Graph part) = InGraph part
lines_so_far (reader.Flow part) = AtFlow part.graph
lines_so_far (reader.Sets part) = InSets part
lines_so_far (reader.Over graph table) = Over graph.graph (option_map (λ t. t.table) table)

-- the last line of a file is read
abbrev pub is_over : LinesSoFar → Bool
is_over (InGraph part) = false
is_over (AtFlow g) = false
is_over (InSets part) = false
is_over (Over g table) = true

-- what is read so far is kept where the last line fits
abbrev pub IsReadIfFits : {E : Type 0} → Result Bool E → LinesSoFar → Result (Option Reader) E → Type 0
IsReadIfFits (Ok fits) st answer = IfOk answer (λ next. option_map lines_so_far next ≡ only_if fits st)
IsReadIfFits (Err error) st answer = IfOk answer (λ next. ⊥)
