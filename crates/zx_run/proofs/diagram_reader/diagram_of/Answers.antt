-- The reader's error tells the file's first fault.
use Rattle.std.proofs.Common.{Err, ap}
use Rattle.zx_run.proofs.DiagramLemmas.{file_refused}
use Rattle.zx_run.proofs.diagram_reader.diagram_of.Goals as goal

pub returns-in-Err-clause-refusal : goal.returns-in-Err-clause-refusal
returns-in-Err-clause-refusal c =
    file_refused c.args.bytes.now c.requires c.in-Err.error
    (λ line is. c.in-Err.ensures.bad_line line (ap Err is)) (λ is. c.in-Err.ensures.too_long (ap Err is))
    c.from.result c.from.ensures
