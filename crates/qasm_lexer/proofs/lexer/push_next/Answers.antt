-- A piece lengthens the cut, and a place where none begins is a bad byte.
use Rattle.std.proofs.Common.{◌≡◌, ◌++◌, arith, ap, ◌∙◌, sym, subst, append_assoc}
use Rattle.qasm_lexer.specs.Tokens.{IsBadByte, lexemes}
use Rattle.qasm_lexer.proofs.Lexing.{bad_here, piece_fits, piece_length, cut_more}
use Rattle.qasm_lexer.proofs.lexer.push_next.Goals as goal

pub returns-in_default-clause-bad_byte : goal.returns-in_default-clause-bad_byte
returns-in_default-clause-bad_byte c = λ before at cut e.
    let k : c.args.place ≡ at = cc in
    subst (IsBadByte c.args.text.now) k (bad_here _ _ c.requires _ c.first_piece.ensures before c.in_default.is cut)

pub slice_bounds-push_piece-end : goal.slice_bounds-push_piece-end
slice_bounds-push_piece-end c = piece_length _ _ c.requires _ c.first_piece.ensures _ _ c.in-Some.is

pub overflow_add-result : goal.overflow_add-result
overflow_add-result c = omega (arith, piece_fits _ _ c.requires _ c.first_piece.ensures _ _ c.in-Some.is)

pub returns-clause-cut : goal.returns-clause-cut
returns-clause-cut c = λ before cut.
    cut_more _ _ c.requires _ c.first_piece.ensures _ _ c.in-Some.is (before ++ lexemes c.args.tokens.now.items) (before ++ lexemes c.push_piece.new.tokens.items) cut
    (ap (λ ts. before ++ ts) c.in_ok-push_piece.ensures ∙ sym (append_assoc before (lexemes c.args.tokens.now.items) _))

pub returns-clause-further : goal.returns-clause-further
returns-clause-further c =
    let fits = piece_fits _ _ c.requires _ c.first_piece.ensures _ _ c.in-Some.is in
    (omega (arith, fits.0), fits.1)

pub returns-clause-added : goal.returns-clause-added
returns-clause-added c = (_, c.in_ok-push_piece.ensures)
