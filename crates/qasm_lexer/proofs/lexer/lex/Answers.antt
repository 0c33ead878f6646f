-- Each piece lengthens the cut; a place where none begins is a bad byte; and there is one cut or bad byte at most.
use Rattle.std.proofs.Common.{◌≡◌, ◌⊎◌, Err, ap, sym, ◌∙◌, subst, arith, length-drop, []}
use Rattle.std.specs.Prelude.{IfErr, IsErrAnd, MatchResult}
use Rattle.std.proofs.lemmas.Result.{err_from_is_err_and}
use Rattle.qasm_lexer.specs.declared.errors.LexError.TheVariants.{BadByte, NoMemory}
use Rattle.qasm_lexer.specs.Tokens.{IsBadByte, IsCut, lexemes}
use Rattle.qasm_lexer.proofs.Cuts.{same_tokens, not_both, cut_at_end}
use Rattle.qasm_lexer.proofs.Lexing.{bad_or_memory, only_memory}
use Rattle.qasm_lexer.proofs.lexer.lex.Goals as goal
use Rattle.qasm_lexer.proofs.lexer.lex.Goals.{After-loop-place}

pub loop-place-preserved : goal.loop-place-preserved
loop-place-preserved c = record {
  cut = c.in_ok-place.ensures.cut [] c.loop-place.invariant.cut;
  within = c.in_ok-place.ensures.further.1;
}

pub returns-in_err-place-clause-only : goal.returns-in_err-place-clause-only
returns-in_err-place-clause-only c = λ tokens cut.
    let p = err_from_is_err_and c.from_residual.result c.from_residual.ensures.1 in
    subst (λ r. MatchResult r (λ given. lexemes given.items ≡ tokens) (λ error. error ≡ NoMemory)) (ap Err (sym p.2) ∙ sym p.1)
    (only_memory c.args.text.now tokens _ (λ at e. c.push_next.ensures.bad_byte (lexemes c.loop-place.tokens.items) at c.loop-place.invariant.cut (c.in_err-place.was ∙ ap Err e)) cut)

pub returns-in_err-place-clause-bad_byte : goal.returns-in_err-place-clause-bad_byte
returns-in_err-place-clause-bad_byte c = λ at.
    let p = err_from_is_err_and c.from_residual.result c.from_residual.ensures.1 in
    subst (λ r. IfErr r (λ error. error ≡ BadByte at → IsBadByte c.args.text.now at)) (ap Err (sym p.2) ∙ sym p.1)
    (λ e. c.push_next.ensures.bad_byte (lexemes c.loop-place.tokens.items) at c.loop-place.invariant.cut (c.in_err-place.was ∙ ap Err e))

pub returns-in_err-place-clause-bad_byte_only : goal.returns-in_err-place-clause-bad_byte_only
returns-in_err-place-clause-bad_byte_only c = λ at b.
    let p = err_from_is_err_and c.from_residual.result c.from_residual.ensures.1 in
    subst (λ r. IsErrAnd r (λ error. (error ≡ BadByte at) ⊎ (error ≡ NoMemory))) (ap Err (sym p.2) ∙ sym p.1)
    (bad_or_memory c.args.text.now _ (λ place e. c.push_next.ensures.bad_byte (lexemes c.loop-place.tokens.items) place c.loop-place.invariant.cut (c.in_err-place.was ∙ ap Err e)) at b)

-- the cut that the loop has at its end
done : (c : After-loop-place) → IsCut 0 c.args.text.now (lexemes c.loop-place.tokens.items)
done c = cut_at_end _ _ _ c.loop-place.invariant.cut (omega (arith, length-drop c.loop-place.place c.args.text.now))

pub returns-clause-only : goal.returns-clause-only
returns-clause-only c = λ tokens cut. same_tokens _ _ _ tokens (done c) cut

pub returns-clause-bad_byte_only : goal.returns-clause-bad_byte_only
returns-clause-bad_byte_only c = λ at b. not_both _ _ at (done c) b
