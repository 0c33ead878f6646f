-- What is left once no move is.
use Rattle.std.proofs.lemmas.Result.{IfOk-weaker}
use Rattle.zx_reduce.proofs.Completing.{completed_ordered, completed_reduces}
use Rattle.zx_reduce.proofs.reduction.reduce_owned.Goals as goal

pub finish-requires-clause-ordered : goal.finish-requires-clause-ordered
finish-requires-clause-ordered c =
    let is = c.in_ok-ended.ensures in
    completed_ordered is.begun c.in_ok-ended.ended is.completes is.begins.ordered

pub returns : goal.returns
returns c =
    IfOk-weaker c.finish.result _ _
    (λ made done. completed_reduces c.args.graph.graph _ c.in_ok-ended.ended made.graph.graph made.flow.flow made.trace.steps made.scalar c.in_ok-ended.ensures done)
    c.finish.ensures
