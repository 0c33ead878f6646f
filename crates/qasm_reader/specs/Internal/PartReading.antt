-- What the answer of the parser means of a part of a program.
use Rattle.std.specs.Prelude.{◌≡◌, List, None, Some, Result, Ok, Err}
use denote.Ref.{Bor}
use Rattle.qasm_lexer.specs.declared.token.Token.{Token}
use Rattle.qasm_lexer.specs.declared.token.TokenKind.TheVariants as kind
use Rattle.qasm_lexer.specs.Tokens.{Lexeme, lexemes}
use Rattle.qasm_reader.specs.declared.parts.BodyPart.{BodyPart}
use Rattle.qasm_reader.specs.declared.parts.BodyPart.TheVariants.{Statement, End}
use Rattle.qasm_reader.specs.declared.parts.Part.{Part}
use Rattle.qasm_reader.specs.declared.step_error.StepError.{StepError}
use Rattle.qasm_reader.specs.declared.step_error.StepError.TheVariants.{Misfit, NoMemory}
use Rattle.qasm_reader.specs.Parts.{BeginNone, IsFirstPart}
use Rattle.qasm_reader.specs.Views.{body_sentence}
use Rattle.qasm_reader.specs.Internal.Taking.{after, body_statement}

-- what the answer says of the part of a program at the start
abbrev pub IsPart : List Lexeme → Result (Part × Bor (List Token)) StepError → Type 0
IsPart ts (Ok x) = IsFirstPart x.0 ts (lexemes x.1.now)
IsPart ts (Err Misfit) = BeginNone ts ts
IsPart ts (Err NoMemory) = Unit {0}

-- what the answer says of the part of a gate's body at the start
abbrev pub IsBodyPart : List Lexeme → Result (BodyPart × Bor (List Token)) StepError → Type 0
IsBodyPart ts (Ok (Statement s, rest)) = body_statement ts ≡ Some (body_sentence s, lexemes rest.now)
IsBodyPart ts (Ok (End, rest)) = after kind.RightBrace ts ≡ Some (lexemes rest.now)
IsBodyPart ts (Err Misfit) = (after kind.RightBrace ts ≡ None) × (body_statement ts ≡ None)
IsBodyPart ts (Err NoMemory) = Unit {0}
