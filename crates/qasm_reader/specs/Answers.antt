-- What `parse` may answer where the tokens are a program, and where they have a fault: that, or that memory ran out.
use Rattle.std.specs.Prelude.{◌≡◌, List, Result, Ok, Err}
use Rattle.qasm_reader.specs.declared.error.ParseError.{ParseError}
use Rattle.qasm_reader.specs.declared.error.ParseError.TheVariants.{Syntax, TooDeep, NoMemory}
use Rattle.qasm_reader.specs.declared.program.Program.{Program}
use Rattle.qasm_reader.specs.Syntax.{Placed}
use Rattle.qasm_reader.specs.Views.{statements_of}

-- the answer is the program of these statements, unless memory ran out
abbrev pub AnswersProgram : List Placed → Result Program ParseError → Type 0
AnswersProgram statements (Ok program) = statements_of program ≡ statements
AnswersProgram statements (Err NoMemory) = Unit {0}
AnswersProgram statements (Err (Syntax at)) = ⊥
AnswersProgram statements (Err (TooDeep at)) = ⊥

-- the answer is this fault, unless memory ran out
abbrev pub AnswersFault : ParseError → Result Program ParseError → Type 0
AnswersFault fault (Ok program) = ⊥
AnswersFault fault (Err NoMemory) = Unit {0}
AnswersFault fault (Err (Syntax at)) = fault ≡ Syntax at
AnswersFault fault (Err (TooDeep at)) = fault ≡ TooDeep at
