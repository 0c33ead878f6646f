-- The tokens of the bytes that weren't read lengthen the cut.
use Rattle.std.proofs.Common.{◌≡◌, ◌+◌, Err, length, sym, ap, ◌∙◌, subst, arith, length-append}
use Rattle.std.proofs.lemmas.Result.{err_from_is_err_and}
use Rattle.std.proofs.lemmas.Grind.{common_steps}
use Rattle.qasm_lexer.specs.Tokens.{IsCut, IsBadByte}
use Rattle.qasm_lexer.proofs.LineCuts.{line_cut, line_bad}
use Rattle.qasm_inline.proofs.piece_reader.PieceReader.read_on.Goals as goal

pub returns-in_err-read_text-clause-bad_byte : goal.returns-in_err-read_text-clause-bad_byte
returns-in_err-read_text-clause-bad_byte c = λ bytes at off e.
    let p = err_from_is_err_and c.from_residual.result c.from_residual.ensures.1 in
    let bad = c.in_err-read_text.ensures.bad_byte at (ap Err (sym p.2) ∙ sym p.1 ∙ e) in
    let here = subst (λ l. IsBadByte l bad.0) c.deref.ensures.value bad.1 in
    subst (IsBadByte bytes) (sym bad.2) (line_bad _ _ _ bad.0 bytes off.begun here)

pub returns-clause-read : goal.returns-clause-read
returns-clause-read c = λ bytes off.
    let read = c.in_ok-read_text.ensures.read in
    let here = subst (λ l. IsCut 0 l read.0) c.deref.ensures.value read.1 in
    let whole : length bytes ≡ c.args.self.now.place + length c.args.self.now.unread.items =
    omega (arith, ap length off.begun.whole, length-append off.begun.lines c.args.self.now.unread.items, off.begun.there) in
    (_, line_cut _ read.0 _ _ bytes off.begun here, read.2 off.all off.keeps, grind (arith, common_steps))
