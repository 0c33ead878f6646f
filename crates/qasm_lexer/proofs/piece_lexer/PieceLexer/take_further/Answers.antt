-- What came is lines and what follows them.
use Rattle.std.proofs.Common.{◌≡◌, ◌++◌, Err, take, drop, sym, ap, ◌∙◌, subst, append_assoc}
use Rattle.std.proofs.lemmas.Result.{err_from_is_err_and}
use Rattle.std.proofs.lemmas.List.{take-append-drop, take_rest}
use Rattle.qasm_lexer.specs.Taken.{IsLineBegun, HasBadLine}
use Rattle.qasm_lexer.proofs.Taking.{line_longer, bad_line_stays}
use Rattle.qasm_lexer.proofs.piece_lexer.PieceLexer.take_further.Goals as goal

pub returns-in_err-take_lines-clause-bad_byte : goal.returns-in_err-take_lines-clause-bad_byte
returns-in_err-take_lines-clause-bad_byte c = λ bytes at begun e.
    let count = c.whole_lines-count.result in
    let p = err_from_is_err_and c.from_residual.result c.from_residual.ensures.1 in
    let whole : (bytes ++ take count c.args.piece.now) ++ drop count c.args.piece.now ≡ bytes ++ c.args.piece.now =
    append_assoc bytes (take count c.args.piece.now) (drop count c.args.piece.now) ∙ ap (λ l. bytes ++ l) (take-append-drop count c.args.piece.now) in
    subst (HasBadLine at) whole (bad_line_stays at _ (drop count c.args.piece.now)
    (c.in_err-take_lines.ensures.bad_byte bytes at begun (ap Err (sym p.2) ∙ sym p.1 ∙ e)))

pub returns-clause-taken : goal.returns-clause-taken
returns-clause-taken c = λ bytes begun.
    let count = c.whole_lines-count.result in
    let rest = c.in_ok-extend_from_slice.ensures.items ∙ ap (λ l. c.take_lines.new.self.line.items ++ l) (take_rest c.args.piece.now count) in
    let whole : (bytes ++ take count c.args.piece.now) ++ drop count c.args.piece.now ≡ bytes ++ c.args.piece.now =
    append_assoc bytes (take count c.args.piece.now) (drop count c.args.piece.now) ∙ ap (λ l. bytes ++ l) (take-append-drop count c.args.piece.now) in
    subst (IsLineBegun c.take_lines.new.self.list c.extend_from_slice.new.self.items c.take_lines.new.self.place) whole
    (subst (λ l. IsLineBegun c.take_lines.new.self.list l c.take_lines.new.self.place ((bytes ++ take count c.args.piece.now) ++ drop count c.args.piece.now)) (sym rest)
    (line_longer _ _ (drop count c.args.piece.now) _ _ (c.in_ok-take_lines.ensures.taken bytes begun)))
