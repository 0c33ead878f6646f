-- What the answers of the parser's steps say of the tokens.
use Rattle.std.specs.Prelude.{◌≡◌, List, Option, None, Some, Result, Ok, Err}
use denote.Ref.{Bor}
use Rattle.qasm_lexer.specs.declared.token.Token.{Token}
use Rattle.qasm_lexer.specs.Tokens.{Lexeme, lexemes}
use Rattle.qasm_reader.specs.declared.error.ParseError.{ParseError}
use Rattle.qasm_reader.specs.declared.error.ParseError.TheVariants.{Syntax, TooDeep, NoMemory}
use Rattle.qasm_reader.specs.declared.program.Program.{Program}
use Rattle.qasm_reader.specs.declared.program.ProgramElement.{ProgramElement}
use Rattle.qasm_reader.specs.Depth.{too_deep}
use Rattle.qasm_reader.specs.Grammar.{BeginsWithStatement, IsFirstStatement, IsProgram, IsSyntaxFault}
use Rattle.qasm_reader.specs.Views.{statement_of, statements_of}

-- what each answer says of the tokens
abbrev pub IsAnswer : List Lexeme → Result Program ParseError → Type 0
IsAnswer ts (Ok program) = (too_deep ts ≡ None) × IsProgram ts (statements_of program)
IsAnswer ts (Err NoMemory) = Unit {0}
IsAnswer ts (Err (Syntax at)) = (too_deep ts ≡ None) × IsSyntaxFault ts at
IsAnswer ts (Err (TooDeep at)) = too_deep ts ≡ Some at

-- the statement that the tokens begin with, and what follows, or that none begins them
abbrev pub IsNext : List Lexeme → Option (ProgramElement × Bor (List Token)) → Type 0
IsNext ts (Some (element, rest)) = IsFirstStatement (statement_of element) ts (lexemes rest.now)
IsNext ts None = BeginsWithStatement ts → ⊥

-- what the answer says of how deep parentheses are
abbrev pub IsDepthAnswer : List Token → Result (Bor (List Token)) ParseError → Type 0
IsDepthAnswer tokens (Ok rest) = (rest.now ≡ tokens) × (too_deep (lexemes tokens) ≡ None)
IsDepthAnswer tokens (Err NoMemory) = ⊥
IsDepthAnswer tokens (Err (Syntax at)) = ⊥
IsDepthAnswer tokens (Err (TooDeep at)) = too_deep (lexemes tokens) ≡ Some at
