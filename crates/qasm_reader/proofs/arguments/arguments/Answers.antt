-- One turn more, and the last.
use Rattle.std.proofs.Common.{map}
use Rattle.std.proofs.lemmas.Result.{err_from_is_err_and}
use Rattle.qasm_lexer.specs.Tokens.{lexemes}
use Rattle.qasm_reader.specs.Views.{operand}
use Rattle.qasm_reader.specs.Internal.Taking as spec
use Rattle.qasm_reader.proofs.Statements.{argument_shrinks}
use Rattle.qasm_reader.proofs.Loops.{comma_smaller, comma_goes_on, comma_fails, comma_stops}
use Rattle.qasm_reader.proofs.arguments.arguments.Goals as goal

pub returns-in_err-next : goal.returns-in_err-next
returns-in_err-next c =
    let p = err_from_is_err_and c.from_residual-in_err-next.result c.from_residual-in_err-next.ensures.1 in
    rw (p.1, p.2) (comma_fails spec.argument argument_shrinks c.in_err-next.field-0.0 (map operand c.loop-following.found.items) (lexemes c.loop-following.rest.now) (lexemes c.in-Some.following.now) _ c.in-Some.ensures c.in_err-next.ensures c.loop-following.invariant)

pub loop-following-smaller : goal.loop-following-smaller
loop-following-smaller c = comma_smaller spec.argument argument_shrinks c.loop-following.rest.now c.in_ok-next.end.now (lexemes c.in-Some.following.now) _ c.in-Some.ensures c.in_ok-next.ensures

pub loop-following-preserved : goal.loop-following-preserved
loop-following-preserved c =
    comma_goes_on operand spec.argument argument_shrinks c.loop-following.found.items c.push-in-Some.new.self.items c.in_ok-next.next (lexemes c.loop-following.rest.now) (lexemes c.in-Some.following.now) (lexemes c.in_ok-next.end.now) _ c.in_ok-push-2.ensures.items c.in-Some.ensures c.in_ok-next.ensures c.loop-following.invariant

pub returns : goal.returns
returns c = comma_stops spec.argument argument_shrinks (map operand c.loop-following.found.items) (lexemes c.loop-following.rest.now) _ c.in_default.ensures c.loop-following.invariant
