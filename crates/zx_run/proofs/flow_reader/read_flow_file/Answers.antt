-- What is read is the file's graph and table, or its first fault.
use Rattle.std.proofs.Common.{◌<◌, ◌≤◌, length, sym, subst}
use Rattle.std.proofs.lemmas.Result.{err_from_is_err_and}
use Rattle.zx_text.specs.Reading.{OnlyWithFlow, IsBadLine}
use Rattle.zx_run.specs.FirstFault.{most_bytes}
use Rattle.zx_run.specs.FlowFiles.{IsFirstFileFault}
use Rattle.zx_run.specs.Answers.{told_source}
use Rattle.zx_run.specs.Internal.Parts.{IsRead, IsReadFailure}
use Rattle.zx_run.proofs.FileReadLemmas.{file_failed}
use Rattle.zx_run.proofs.RefusalLemmas.{unread}
use Rattle.zx_run.proofs.flow_reader.read_flow_file.Goals as goal

pub returns-in_err-read_graph_with_flow-clause-read : goal.returns-in_err-read_graph_with_flow-clause-read
returns-in_err-read_graph_with_flow-clause-read g c =
    let before = told_source g.S.Source.left g.S.Source.faults c.args.source.now in
    let after = told_source g.S.Source.left g.S.Source.faults c.read_all.new.source in
    let all = c.in_ok-bytes.ensures in
    let p = err_from_is_err_and c.from_residual-in_err-read_graph_with_flow.result c.from_residual-in_err-read_graph_with_flow.ensures.1 in
    subst (IsRead IsFirstFileFault before after) (sym p.1)
    (unread (subst (IsReadFailure IsFirstFileFault before after) (sym p.2)
    (file_failed c.in_ok-bytes.bytes.items c.read_graph_with_flow.result all.within before after all.ok all.bytes
    (λ line is. subst (λ b. (length b ≤ most_bytes) × IsBadLine OnlyWithFlow b line) c.deref.ensures.value
    (c.read_graph_with_flow.ensures.bad_line line is))
    (λ is. subst (λ b. most_bytes < length b) c.deref.ensures.value (c.read_graph_with_flow.ensures.too_long is))
    c.in_err-read_graph_with_flow.field-0.0 c.in_err-read_graph_with_flow.was)))
