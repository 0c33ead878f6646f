-- Whole statements stand before what is left.
use Rattle.std.proofs.Common.{map, length}
use Rattle.qasm_lexer.specs.Tokens.{lexemes}
use Rattle.qasm_reader.specs.Views.{statement_of}
use Rattle.qasm_reader.proofs.Programs.{IsProgramPrefix}
use Rattle.qasm_reader.proofs.parser.program.Given as goal

abbrev pub invariant-loop-elements : goal.invariant-loop-elements
invariant-loop-elements l = IsProgramPrefix (lexemes l.tokens) (lexemes l.rest) (map statement_of l.elements.items)

abbrev pub decreases-loop-elements : goal.decreases-loop-elements
decreases-loop-elements l = length l.rest
