-- The line is longer, and then it is over.
use Rattle.std.proofs.Common.{◌<◌, ◌++◌, Err, length, sym, ap, ◌∙◌, subst, arith}
use Rattle.std.proofs.lemmas.Result.{err_from_is_err_and}
use Rattle.std.proofs.lemmas.Grind.{common_steps}
use Rattle.qasm_lexer.specs.Taken.{IsLineBegun}
use Rattle.qasm_lexer.proofs.Taking.{line_longer, line_over, lines_behind, bad_line}
use Rattle.qasm_lexer.proofs.piece_lexer.PieceLexer.take_lines.Goals as goal

pub returns-clause-taken : goal.returns-clause-taken
returns-clause-taken c = λ bytes begun.
    let some : 0 < length c.args.lines.now = grind (arith, common_steps) in
    let longer = subst (λ l. IsLineBegun c.args.self.now.list l c.args.self.now.place (bytes ++ c.args.lines.now)) (sym c.in_ok-extend_from_slice.ensures.items)
    (line_longer _ _ c.args.lines.now _ bytes begun) in
    line_over _ _ _ _ (c.in_ok-end_line.ensures.cut (bytes ++ c.args.lines.now) longer) c.in_ok-end_line.ensures.line (lines_behind bytes c.args.lines.now c.requires some)

pub returns-in_err-end_line-clause-bad_byte : goal.returns-in_err-end_line-clause-bad_byte
returns-in_err-end_line-clause-bad_byte c = λ bytes at begun e.
    let p = err_from_is_err_and c.from_residual-in_err-end_line.result c.from_residual-in_err-end_line.ensures.1 in
    let some : 0 < length c.args.lines.now = grind (arith, common_steps) in
    let longer = subst (λ l. IsLineBegun c.args.self.now.list l c.args.self.now.place (bytes ++ c.args.lines.now)) (sym c.in_ok-extend_from_slice.ensures.items)
    (line_longer _ _ c.args.lines.now _ bytes begun) in
    bad_line at _ (lines_behind bytes c.args.lines.now c.requires some)
    (c.in_err-end_line.ensures.bad_byte (bytes ++ c.args.lines.now) at longer (ap Err (sym p.2) ∙ sym p.1 ∙ e))
