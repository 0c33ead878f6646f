-- What an answer to a text says of it.
use Rattle.std.specs.Prelude.{◌≡◌, ℕ, List, None, Some, Result, Ok, Err}
use Rattle.zx_gates.specs.declared.elementary.Elementary.{Elementary}
use Rattle.zx_gates.specs.Elementary.{IsElementary}
use Rattle.qasm_lexer.specs.Tokens.{Lexeme, IsCut, IsBadByte}
use Rattle.qasm_reader.specs.Depth.{too_deep}
use Rattle.qasm_reader.specs.Grammar.{IsSyntaxFault}
use Rattle.qasm_reader.specs.Syntax.{Placed}
use Rattle.qasm_scope.specs.Meaning.{Means, first_fault, most_calls}
use Rattle.qasm_scope.specs.Texts.{IsProgramText}
use Rattle.qasm_inline.specs.declared.error.TextError.{TextError}
use Rattle.qasm_inline.specs.declared.error.TextError.TheVariants.{BadByte, TooDeep, Syntax, Wrong, NoMemory}

-- The text is a program without fault, and the circuit is what it means; or this is the text's first fault, of the
-- first of these kinds that it has: a byte that no token has, parentheses nested too deep, a place where the grammar is
-- broken, a statement that something is wrong with. Want of memory says nothing of the text.
abbrev pub IsTextAnswer : List ℕ → Result Elementary TextError → Type 0
IsTextAnswer text (Ok circuit) =
    IsElementary circuit × (program : List Placed) × IsProgramText text program
    × (first_fault most_calls program ≡ None)
    × Means program circuit.qubits circuit.gates circuit.bits circuit.measured
IsTextAnswer text (Err (BadByte at)) = IsBadByte text at
IsTextAnswer text (Err (TooDeep at)) = (tokens : List Lexeme) × IsCut 0 text tokens × (too_deep tokens ≡ Some at)
IsTextAnswer text (Err (Syntax at)) =
    (tokens : List Lexeme) × IsCut 0 text tokens × (too_deep tokens ≡ None) × IsSyntaxFault tokens at
IsTextAnswer text (Err (Wrong cause at)) =
    (program : List Placed) × IsProgramText text program × (first_fault most_calls program ≡ Some (cause, at))
IsTextAnswer text (Err NoMemory) = Unit {0}
