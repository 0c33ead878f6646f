-- What a line leads to is told by its parts.
use Rattle.zx_text.specs.Versions.{version_named}
use Rattle.zx_text.specs.Internal.Taking.{line_said}
use Rattle.zx_text.specs.Internal.Readers.{lines_so_far}
use Rattle.zx_text.specs.Internal.GraphFormat.{graph_files}
use Rattle.zx_text.proofs.WalkLemmas.{leads_on, leads_nowhere}
use Rattle.zx_text.proofs.StopLemmas.{by_lines}
use Rattle.zx_text.proofs.graph_lines.line_taken.Goals as goal

pub returns-in-Ok-Some-clause-taken : goal.returns-in-Ok-Some-clause-taken
returns-in-Ok-Some-clause-taken c =
    leads_on (graph_files _) (by_lines _) lines_so_far c.taken.result (version_named c.args.version) (lines_so_far c.args.reader) (line_said c.in-Ok-Some.line)
    c.args.line.now (rw c.in-Ok-Some.field-0-is at c.in-Ok-Some.ensures.small) (rw c.in-Ok-Some.field-0-is at c.in-Ok-Some.ensures.some) c.taken.ensures

pub returns-in-Ok-Some-clause-none : goal.returns-in-Ok-Some-clause-none
returns-in-Ok-Some-clause-none c =
    leads_nowhere (graph_files _) (by_lines _) lines_so_far c.taken.result (version_named c.args.version) (lines_so_far c.args.reader) (line_said c.in-Ok-Some.line)
    c.args.line.now (rw c.in-Ok-Some.field-0-is at c.in-Ok-Some.ensures.small) (rw c.in-Ok-Some.field-0-is at c.in-Ok-Some.ensures.some) c.taken.ensures
