-- What is read is the text's circuit, or its first fault.
use Rattle.std.proofs.Common.{◌≡◌, ℕ, List, [], Some, Err, inl, ap, subst, sym, arith}
use Rattle.std.proofs.lemmas.Result.{err_from_is_err_and}
use Rattle.qasm_inline.specs.PieceReadings.{HasRead}
use Rattle.zx_run.specs.FirstFault.{IsFirstFault}
use Rattle.zx_run.specs.Answers.{told_source}
use Rattle.zx_run.specs.Internal.Parts.{IsRead}
use Rattle.zx_run.proofs.ReadLemmas.{read_accepted, text_failed}
use Rattle.zx_run.proofs.RefusalLemmas.{bytes_failed, read_failed, unread}
use Rattle.zx_run.proofs.reader.read_circuit.Goals as goal

pub returns-in_err-finish-clause-read : goal.returns-in_err-finish-clause-read
returns-in_err-finish-clause-read g c =
    let before = told_source g.S.Source.left g.S.Source.faults c.args.source.now in
    let after = told_source g.S.Source.left g.S.Source.faults c.read_pieces.new.source in
    let read = c.in_ok-read_pieces.ensures in
    let fault = c.in_err-finish.ensures in
    let p = err_from_is_err_and c.from_residual-in_err-finish.result c.from_residual-in_err-finish.ensures.1 in
    let is_read : (text : List ℕ) → g.S.Source.left c.args.source.now ≡ Some text → HasRead c.read_pieces.new.to text =
    λ text told. read.bytes [] text c.new-reader.ensures (omega arith) told in
    subst (IsRead IsFirstFault before after) (sym p.1)
    (unread (text_failed before after read.ok read.end c.in_err-finish.field-0.0 (λ text told. fault.answers text (is_read text told)) p.0 p.2))

pub returns-clause-accepted : goal.returns-clause-accepted
returns-clause-accepted g c = λ text told.
    let read = c.in_ok-read_pieces.ensures in
    read_accepted text (read.end text told).0 c.in_ok-finish.field-0
    (c.in_ok-finish.ensures.answers text (read.bytes [] text c.new-reader.ensures (omega arith) told))

pub returns-clause-valid : goal.returns-clause-valid
returns-clause-valid g c =
    let text = c.in_ok-read_pieces.ensures.within [] c.new-reader.ensures (omega arith) in
    (c.in_ok-finish.ensures.answers text.0 text.2).0

pub returns-in_err-read_pieces-clause-read : goal.returns-in_err-read_pieces-clause-read
returns-in_err-read_pieces-clause-read g c =
    let before = told_source g.S.Source.left g.S.Source.faults c.args.source.now in
    let after = told_source g.S.Source.left g.S.Source.faults c.read_pieces.new.source in
    let failed = c.in_err-read_pieces.ensures in
    bytes_failed IsFirstFault (λ text fault why. inl why) before after _ _ c.from_residual.ensures.1
    (read_failed before after c.in_err-read_pieces.field-0.0 (λ is. failed.read_fault (ap Err is)) (λ is text told. failed.too_long (ap Err is) text told)
    (λ is. failed.too_long_ok (ap Err is)) (λ is. failed.no_memory (ap Err is)))

pub returns-clause-read : goal.returns-clause-read
returns-clause-read g c =
    let read = c.in_ok-read_pieces.ensures in record { reads_well = read.ok; end = λ text told. (read.end text told).1; failure = tt }
