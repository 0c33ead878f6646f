-- Where a condition fails, the line of the first failure is written.
use Rattle.std.proofs.Common.{rules}
use Rattle.zx_run.specs.FlowFiles.{IsReducedFile}
use Rattle.zx_run.proofs.FileReadLemmas.{failing}
use Rattle.zx_run.proofs.reduction.reduction.Goals as goal

pub returns-in-Fails : goal.returns-in-Fails
returns-in-Fails c =
    let found = rw c.in-Ok.is at c.check.ensures in
    failing c.args.graph.graph c.args.table.table (IsReducedFile c.args.graph.graph) c.in-Ok.verdict
    c.in-Fails.vertex c.in-Fails.condition (search rules) found.flow found.fails c.failure.result c.failure.ensures.line c.failure.ensures.no
