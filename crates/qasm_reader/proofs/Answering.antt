-- What each answer of the parser means, from what it says of the tokens.
use Rattle.std.proofs.Common.{◌≡◌, ℕ, List, None, Some, Result, Ok, Err, IfOk, OnOk, sym, ◌∙◌, subst}
use Rattle.qasm_lexer.specs.Tokens.{Lexeme}
use Rattle.qasm_reader.specs.declared.error.ParseError.{ParseError}
use Rattle.qasm_reader.specs.declared.error.ParseError.TheVariants.{Syntax, TooDeep, NoMemory}
use Rattle.qasm_reader.specs.declared.program.Program.{Program}
use Rattle.qasm_reader.specs.Syntax.{Placed}
use Rattle.qasm_reader.specs.Views.{statements_of}
use Rattle.qasm_reader.specs.Depth.{too_deep}
use Rattle.qasm_reader.specs.Grammar.{IsProgram, IsSyntaxFault}
use Rattle.qasm_reader.specs.Answers.{AnswersProgram, AnswersFault}
use Rattle.qasm_reader.specs.Internal.Parsing.{IsAnswer}
use Rattle.qasm_reader.proofs.Programs.{one_program, one_fault, program_no_fault}
use Rattle.qasm_reader.proofs.Steps.{not_none, same}

pub found : (ts : List Lexeme) (r : Result Program ParseError) → IsAnswer ts r → IfOk r (λ program. IsProgram ts (statements_of program))
found ts (Ok program) a = a.1
found ts (Err e) a = tt

pub shallow : (ts : List Lexeme) (r : Result Program ParseError) → IsAnswer ts r → OnOk r (too_deep ts ≡ None)
shallow ts (Ok program) a = a.0
shallow ts (Err e) a = tt

pub only : (ts : List Lexeme) (r : Result Program ParseError) → IsAnswer ts r → (statements : List Placed) → IsProgram ts statements → too_deep ts ≡ None → AnswersProgram statements r
only ts (Ok program) a statements p none = one_program ts (statements_of program) statements a.1 p
only ts (Err NoMemory) a statements p none = tt
only ts (Err (Syntax at)) a statements p none = program_no_fault ts statements at p a.1
only ts (Err (TooDeep at)) a statements p none = not_none at (too_deep ts) a none

pub deep : (ts : List Lexeme) (r : Result Program ParseError) → IsAnswer ts r → (at : ℕ) → r ≡ Err (TooDeep at) → too_deep ts ≡ Some at
deep ts r a at e = subst (IsAnswer ts) e a

pub only_deep : (ts : List Lexeme) (r : Result Program ParseError) → IsAnswer ts r → (at : ℕ) → too_deep ts ≡ Some at → AnswersFault (TooDeep at) r
only_deep ts (Ok program) a at some = not_none at (too_deep ts) some a.0
only_deep ts (Err NoMemory) a at some = tt
only_deep ts (Err (Syntax n)) a at some = absurd (not_none at (too_deep ts) some a.0)
only_deep ts (Err (TooDeep n)) a at some = let e : at ≡ n = same at n (sym some ∙ a) in cc

pub syntax : (ts : List Lexeme) (r : Result Program ParseError) → IsAnswer ts r → (at : ℕ) → r ≡ Err (Syntax at) → (too_deep ts ≡ None) × IsSyntaxFault ts at
syntax ts r a at e = subst (IsAnswer ts) e a

pub only_syntax : (ts : List Lexeme) (r : Result Program ParseError) → IsAnswer ts r → (at : ℕ) → IsSyntaxFault ts at → too_deep ts ≡ None → AnswersFault (Syntax at) r
only_syntax ts (Ok program) a at f none = program_no_fault ts (statements_of program) at a.1 f
only_syntax ts (Err NoMemory) a at f none = tt
only_syntax ts (Err (Syntax n)) a at f none = let e : at ≡ n = one_fault ts at n f a.1 in cc
only_syntax ts (Err (TooDeep n)) a at f none = absurd (not_none n (too_deep ts) a none)
