-- Where a condition fails, the line of the first failure is written.
use Rattle.std.proofs.Common.{◌≡◌, codes, rules}
use Rattle.zx_run.proofs.FileReadLemmas.{failing}
use Rattle.zx_run.proofs.flow_verdict.verdict_on.Goals as goal

pub returns-in-Fails : goal.returns-in-Fails
returns-in-Fails c =
    let found = c.in_ok-check.ensures in
    failing c.args.graph.now.graph c.args.table.now.table (λ bytes. bytes ≡ codes "flow\n") c.in_ok-check.field-0
    c.in-Fails.vertex c.in-Fails.condition (search rules) found.flow found.fails c.failure.result c.failure.ensures.line c.failure.ensures.no
