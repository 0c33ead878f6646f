-- Each piece lengthens the cut, and a place where none begins is a bad byte.
use Rattle.std.proofs.Common.{Err, ap, sym, ◌∙◌, ◌++◌, inl}
use Rattle.std.proofs.lemmas.Result.{err_from_is_err_and}
use Rattle.qasm_lexer.specs.Tokens.{lexemes}
use Rattle.qasm_lexer.proofs.Lexing.{begun_further, gets_on}
use Rattle.qasm_lexer.proofs.lexer.lex_further.Goals as goal

pub loop-end-preserved : goal.loop-end-preserved
loop-end-preserved c = record {
  cut = λ before cut. c.in_ok-end.ensures.cut before (c.loop-end.invariant.cut before cut);
  added = begun_further _ _ _ c.loop-end.invariant.added c.in_ok-end.ensures.added;
  within = c.in_ok-end.ensures.further.1;
  further = inl (gets_on _ _ _ c.loop-end.invariant.further c.in_ok-end.ensures.further.0);
}

pub returns-in_err-end-clause-bad_byte : goal.returns-in_err-end-clause-bad_byte
returns-in_err-end-clause-bad_byte c = λ before at cut e.
    let p = err_from_is_err_and c.from_residual.result c.from_residual.ensures.1 in
    c.push_next.ensures.bad_byte (before ++ lexemes c.loop-end.tokens.items) at (c.loop-end.invariant.cut before cut)
    (c.in_err-end.was ∙ ap Err (sym p.2) ∙ sym p.1 ∙ e)
