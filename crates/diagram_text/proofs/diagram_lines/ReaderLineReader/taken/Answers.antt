-- A line that leads nowhere is told by its parts.
use Rattle.std.proofs.Common.{◌≡◌, ℕ, true, List, sym, Option, None, Some, Result, Ok, Err, IfOk, IfNone}
use Rattle.zx_text.specs.Files.{Version}
use Rattle.zx_text.specs.Pieces.{pieces}
use Rattle.zx_text.specs.Formats.{IsRefused}
use Rattle.zx_text.specs.Versions.{version_named}
use Rattle.zx_text.proofs.WalkLemmas.{refused}
use Rattle.diagram_text.specs.declared.line.Line.{Line}
use Rattle.diagram_text.specs.declared.reader.Reader.{Reader}
use Rattle.diagram_text.specs.Lines.{parts}
use Rattle.diagram_text.specs.Internal.Stepping.{has_small, diagram_step}
use Rattle.diagram_text.specs.Internal.DiagramFormat.{diagram_files}
use Rattle.diagram_text.proofs.StopLemmas.{by_lines}
use Rattle.diagram_text.proofs.diagram_lines.ReaderLineReader.taken.Goals as goal

leads_nowhere : {E : Type 0} (r : Result (Option Reader) E) (version : Version) (st : Reader) (said : Line) (line : List ℕ)
    → IfOk r (λ next. next ≡ diagram_step version st said) → has_small said ≡ true → parts said ≡ pieces 32 line
    → IfOk r (λ found. IfNone found (IsRefused diagram_files version st line))
leads_nowhere (Ok (Some x)) version st said line leads small same = tt
leads_nowhere (Ok None) version st said line leads small same = refused diagram_files by_lines version st said line small same (sym leads)
leads_nowhere (Err e) version st said line leads small same = tt

pub returns-in-Some-clause-none : goal.returns-in-Some-clause-none
returns-in-Some-clause-none c =
    leads_nowhere c.taken.result (version_named c.args.version) c.args.self c.in-Some.line c.args.line.now c.taken.ensures
    (rw c.in-Some.is at c.parse.ensures.small) (rw c.in-Some.is at c.parse.ensures.some)
