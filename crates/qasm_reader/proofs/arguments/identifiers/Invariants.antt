-- The names so far and those of what is left are those of all.
use Rattle.std.proofs.Common.{◌≡◌, map, length}
use Rattle.qasm_lexer.specs.Tokens.{lexemes}
use Rattle.qasm_reader.specs.Internal.Taking as spec
use Rattle.qasm_reader.proofs.arguments.identifiers.Given as goal

abbrev pub invariant-loop-following : goal.invariant-loop-following
invariant-loop-following l =
    spec.with_prefix (map (λ name. name.now) l.names.items) (spec.comma_items spec.identifier (lexemes l.rest)) ≡ spec.identifiers (lexemes l.tokens)

abbrev pub decreases-loop-following : goal.decreases-loop-following
decreases-loop-following l = length l.rest
