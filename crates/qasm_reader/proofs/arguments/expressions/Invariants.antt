-- The expressions so far and those of what is left are those of all.
use Rattle.std.proofs.Common.{◌≡◌, map, length}
use Rattle.qasm_lexer.specs.Tokens.{lexemes}
use Rattle.qasm_reader.specs.Postfix.{formula_of}
use Rattle.qasm_reader.specs.Internal.Machine.{take_expression}
use Rattle.qasm_reader.specs.Internal.Taking as spec
use Rattle.qasm_reader.proofs.arguments.expressions.Given as goal

abbrev pub invariant-loop-following : goal.invariant-loop-following
invariant-loop-following l =
    spec.with_prefix (map formula_of l.found.items) (spec.comma_items take_expression (lexemes l.rest)) ≡ spec.comma_list take_expression (lexemes l.tokens)

abbrev pub decreases-loop-following : goal.decreases-loop-following
decreases-loop-following l = length l.rest
