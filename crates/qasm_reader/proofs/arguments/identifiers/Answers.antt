-- One turn more, and the last.
use Rattle.std.proofs.Common.{map}
use Rattle.std.proofs.lemmas.Result.{err_from_is_err_and}
use Rattle.qasm_lexer.specs.declared.token.TokenKind.TheVariants as kind
use Rattle.qasm_lexer.specs.Tokens.{lexemes}
use Rattle.qasm_reader.specs.Internal.Taking as spec
use Rattle.qasm_reader.proofs.Steps.{text_shrinks}
use Rattle.qasm_reader.proofs.Loops.{comma_smaller, comma_goes_on, comma_fails, comma_stops}
use Rattle.qasm_reader.proofs.arguments.identifiers.Goals as goal

pub returns-in_err-name : goal.returns-in_err-name
returns-in_err-name c =
    let p = err_from_is_err_and c.from_residual-in_err-name.result c.from_residual-in_err-name.ensures.1 in
    rw (p.1, p.2) (comma_fails spec.identifier (text_shrinks kind.Identifier) c.in_err-name.field-0.0 (map (λ name. name.now) c.loop-following.names.items) (lexemes c.loop-following.rest.now) (lexemes c.in-Some.following.now) _ c.in-Some.ensures c.in_err-name.ensures c.loop-following.invariant)

pub loop-following-smaller : goal.loop-following-smaller
loop-following-smaller c = comma_smaller spec.identifier (text_shrinks kind.Identifier) c.loop-following.rest.now c.in_ok-name.end.now (lexemes c.in-Some.following.now) _ c.in-Some.ensures c.in_ok-name.ensures

pub loop-following-preserved : goal.loop-following-preserved
loop-following-preserved c =
    comma_goes_on (λ name. name.now) spec.identifier (text_shrinks kind.Identifier) c.loop-following.names.items c.push-in-Some.new.self.items c.in_ok-name.name (lexemes c.loop-following.rest.now) (lexemes c.in-Some.following.now) (lexemes c.in_ok-name.end.now) _ c.in_ok-push-2.ensures.items c.in-Some.ensures c.in_ok-name.ensures c.loop-following.invariant

pub returns : goal.returns
returns c = comma_stops spec.identifier (text_shrinks kind.Identifier) (map (λ name. name.now) c.loop-following.names.items) (lexemes c.loop-following.rest.now) _ c.in_default.ensures c.loop-following.invariant
