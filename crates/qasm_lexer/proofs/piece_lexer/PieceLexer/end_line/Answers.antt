-- The line's tokens, moved to its place, lengthen the cut.
use Rattle.std.proofs.Common.{◌≡◌, ◌+◌, Err, length, sym, ap, ◌∙◌, subst, arith, length-append}
use Rattle.std.proofs.lemmas.Result.{err_from_is_err_and}
use Rattle.std.proofs.lemmas.Grind.{common_steps}
use Rattle.qasm_lexer.specs.Tokens.{IsCut, IsBadByte}
use Rattle.qasm_lexer.proofs.LineCuts.{line_cut, line_bad}
use Rattle.qasm_lexer.proofs.piece_lexer.PieceLexer.end_line.Goals as goal

pub returns-in_err-add_tokens-clause-bad_byte : goal.returns-in_err-add_tokens-clause-bad_byte
returns-in_err-add_tokens-clause-bad_byte c = λ bytes at begun e.
    let p = err_from_is_err_and c.from_residual.result c.from_residual.ensures.1 in
    let bad = c.in_err-add_tokens.ensures.bad_byte at (ap Err (sym p.2) ∙ sym p.1 ∙ e) in
    let here = subst (λ l. IsBadByte l bad.0) c.deref.ensures.value bad.1 in
    subst (IsBadByte bytes) (sym bad.2) (line_bad _ _ _ bad.0 bytes begun here)

pub returns-clause-cut : goal.returns-clause-cut
returns-clause-cut c = λ bytes begun.
    let added = c.in_ok-add_tokens.ensures.added in
    let here = subst (λ l. IsCut 0 l added.0) c.deref.ensures.value added.1 in
    let whole : length bytes ≡ c.args.self.now.place + length c.args.self.now.line.items =
    omega (arith, ap length begun.whole, length-append begun.lines c.args.self.now.line.items, begun.there) in
    (subst (IsCut 0 bytes) (sym added.2) (line_cut _ added.0 _ _ bytes begun here), grind (arith, common_steps))
