-- What came is lines and what follows them.
use Rattle.std.proofs.Common.{◌≡◌, ◌++◌, Err, take, drop, sym, ap, ◌∙◌, subst, append_assoc, refl}
use Rattle.std.proofs.lemmas.Result.{err_from_is_err_and}
use Rattle.std.proofs.lemmas.List.{take-append-drop, take_rest}
use Rattle.qasm_lexer.specs.Taken.{HasBadLine}
use Rattle.qasm_lexer.proofs.Taking.{bad_line_stays}
use Rattle.qasm_inline.specs.PieceReadings.{IsReadOff}
use Rattle.qasm_inline.proofs.PieceLemmas.{unread_longer}
use Rattle.qasm_inline.proofs.piece_reader.PieceReader.take_further.Goals as goal

pub returns-in_err-take_lines-clause-bad_byte : goal.returns-in_err-take_lines-clause-bad_byte
returns-in_err-take_lines-clause-bad_byte c = λ bytes at off e.
    let count = c.whole_lines-count.result in
    let p = err_from_is_err_and c.from_residual.result c.from_residual.ensures.1 in
    let whole : (bytes ++ take count c.args.piece.now) ++ drop count c.args.piece.now ≡ bytes ++ c.args.piece.now =
    append_assoc bytes (take count c.args.piece.now) (drop count c.args.piece.now) ∙ ap (λ l. bytes ++ l) (take-append-drop count c.args.piece.now) in
    subst (HasBadLine at) whole (bad_line_stays at _ (drop count c.args.piece.now)
    (c.in_err-take_lines.ensures.bad_byte bytes at off (ap Err (sym p.2) ∙ sym p.1 ∙ e)))

pub returns-clause-taken : goal.returns-clause-taken
returns-clause-taken c = λ bytes off.
    let count = c.whole_lines-count.result in
    let rest = c.in_ok-extend_from_slice.ensures.items ∙ ap (λ l. c.take_lines.new.self.unread.items ++ l) (take_rest c.args.piece.now count) in
    let whole : (bytes ++ take count c.args.piece.now) ++ drop count c.args.piece.now ≡ bytes ++ c.args.piece.now =
    append_assoc bytes (take count c.args.piece.now) (drop count c.args.piece.now) ∙ ap (λ l. bytes ++ l) (take-append-drop count c.args.piece.now) in
    let later = record c.take_lines.new.self { unread = c.extend_from_slice.new.self } in
    subst (IsReadOff later) whole
    (unread_longer c.take_lines.new.self later _ (drop count c.args.piece.now) rest refl refl (c.in_ok-take_lines.ensures.taken bytes off))
