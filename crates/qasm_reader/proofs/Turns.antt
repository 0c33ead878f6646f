-- The loops over a program's statements and over a gate's body.
use Rattle.std.proofs.Common.{◌≡◌, ◌<◌, ℕ, List, [], ◌∷◌, ◌++◌, length, map, Option, Some, sym, ap, ◌∙◌, subst}
use Rattle.std.specs.Borrow.{Bor}
use Rattle.std.specs.Prelude.{IfSome}
use Rattle.std.proofs.lemmas.List.{map-append}
use Rattle.qasm_lexer.specs.declared.token.Token.{Token}
use Rattle.qasm_lexer.specs.Tokens.{Lexeme, lexemes}
use Rattle.qasm_reader.specs.declared.parts.BodyPart.{BodyPart}
use Rattle.qasm_reader.specs.declared.parts.BodyPart.TheVariants.{Statement, End}
use Rattle.qasm_reader.specs.declared.program.BodyStatement.{BodyStatement}
use Rattle.qasm_reader.specs.declared.program.GateHeading.{GateHeading}
use Rattle.qasm_reader.specs.declared.program.ProgramElement.{ProgramElement}
use Rattle.qasm_reader.specs.Grammar.{IsFirstStatement}
use Rattle.qasm_reader.specs.Parts.{IsBehind, IsInBody, IsNextInBody}
use Rattle.qasm_reader.specs.Syntax.{DeclareGate, GateForm}
use Rattle.qasm_reader.specs.Views.{body_sentence, form_of, statement_of}
use Rattle.qasm_reader.proofs.Programs.{IsProgramPrefix, first_shrinks, prefix_first}
use Rattle.qasm_reader.proofs.Loops.{fewer}
use Rattle.qasm_reader.proofs.PartWise.{behind_shrinks}

-- ---- statements
pub goes_on : (all : List Lexeme) (rest end : List Token) (items items' : List ProgramElement) (x : ProgramElement) → items' ≡ items ++ x ∷ []
    → IsProgramPrefix all (lexemes rest) (map statement_of items) → IsFirstStatement (statement_of x) (lexemes rest) (lexemes end) → IsProgramPrefix all (lexemes end) (map statement_of items')
goes_on all rest end items items' x push prefix first =
    subst (IsProgramPrefix all (lexemes end)) (sym (ap (map statement_of) push ∙ map-append statement_of items (x ∷ [])))
    (prefix_first all (lexemes rest) (lexemes end) (map statement_of items) (statement_of x) prefix first)

pub smaller : (rest end : List Token) (x : ProgramElement) → IsFirstStatement (statement_of x) (lexemes rest) (lexemes end) → length end < length rest
smaller rest end x first = fewer rest end (first_shrinks (statement_of x) (lexemes rest) (lexemes end) first)

-- ---- a gate's body
next_is : (place : ℕ) (gate : GateForm) (all ts : List Lexeme) (read : Option (BodyPart × Bor (List Token))) (part next : BodyPart) (end : Bor (List Token)) → read ≡ Some (part, end) → part ≡ next
    → IsNextInBody place gate all ts read → IsNextInBody place gate all ts (Some (next, end))
next_is place gate all ts read part next end is same h = subst (λ p. IsNextInBody place gate all ts (Some (p, end))) same (subst (IsNextInBody place gate all ts) is h)

pub body_goes_on : (place : ℕ) (heading : GateHeading) (all ts : List Lexeme) (items items' : List BodyStatement) (x : BodyStatement) (read : Option (BodyPart × Bor (List Token))) (part : BodyPart) (end : Bor (List Token))
    → items' ≡ items ++ x ∷ [] → read ≡ Some (part, end) → part ≡ Statement x → IsNextInBody place (form_of heading (map body_sentence items)) all ts read
    → IsInBody place (form_of heading (map body_sentence items')) all (lexemes end.now)
body_goes_on place heading all ts items items' x read part end push is same h =
    subst (λ body. IsInBody place (form_of heading body) all (lexemes end.now)) (sym (ap (map body_sentence) push ∙ map-append body_sentence items (x ∷ [])))
    (next_is place (form_of heading (map body_sentence items)) all ts read part (Statement x) end is same h)

pub body_ends : (place : ℕ) (gate : GateForm) (all ts : List Lexeme) (read : Option (BodyPart × Bor (List Token))) (part : BodyPart) (end : Bor (List Token)) → read ≡ Some (part, end) → part ≡ End
    → IsNextInBody place gate all ts read → IsFirstStatement (record { place = place; sentence = DeclareGate gate }) all (lexemes end.now)
body_ends place gate all ts read part end is same h = next_is place gate all ts read part End end is same h

pub body_smaller : (rest : List Token) (read : Option (BodyPart × Bor (List Token))) (part : BodyPart) (end : Bor (List Token)) → read ≡ Some (part, end)
    → IfSome read (λ x. IsBehind (lexemes x.1.now) (lexemes rest)) → length end.now < length rest
body_smaller rest read part end is behind =
    fewer rest end.now (behind_shrinks (lexemes rest) (lexemes end.now) (subst (λ x. IfSome x (λ y. IsBehind (lexemes y.1.now) (lexemes rest))) is behind))
