-- The grammar of OpenQASM 2.0, a case for each of its lines: Cross, Bishop, Smolin and Gambetta, "Open quantum assembly
-- language" (arXiv 1707.03429), appendix A. Signs look at a token's kind alone, and words take its text too.
-- Cross and others have the version once, before all; here it is a statement, and so is an include.
use Rattle.std.specs.Prelude.{◌≡◌, ◌⊎◌, ℕ, List, [], ◌∷◌, ◌++◌, Option, None, Some}
use Rattle.qasm_lexer.specs.declared.token.TokenKind.{TokenKind}
use Rattle.qasm_lexer.specs.declared.token.TokenKind.TheVariants as kind
use Rattle.qasm_lexer.specs.Tokens.{Lexeme}
use Rattle.qasm_reader.specs.declared.expression.Function.{Function}
use Rattle.qasm_reader.specs.declared.expression.Function.TheVariants.{Sin, Cos, Tan, Exp, Ln, Sqrt}
use Rattle.qasm_reader.specs.declared.expression.Operator.TheVariants.{Add, Subtract, Multiply, Divide, Power}
use Rattle.qasm_reader.specs.Syntax.{Formula, Number, Pi, Name, Negate, Binary, Call, Operand, Callee, Declared, U, Cx}
use Rattle.qasm_reader.specs.Syntax.{Action, Applied, Measured, Reset, BodySentence, BodyApplied, BodyBarrier, Sentence}
use Rattle.qasm_reader.specs.Syntax.{Version, Include, QubitRegister, BitRegister, DeclareGate, Opaque, If, Barrier}
use Rattle.qasm_reader.specs.Syntax.{Act, Placed}

-- ---- how lines are made

-- one token, of this kind
abbrev pub Sign : TokenKind → List Lexeme → Type 0
Sign k ts = (t : Lexeme) × (t.kind ≡ k) × (ts ≡ t ∷ [])

-- one token, of this kind and with this text
abbrev pub Word : TokenKind → List ℕ → List Lexeme → Type 0
Word k text ts = (t : Lexeme) × (t.kind ≡ k) × (t.text ≡ text) × (ts ≡ t ∷ [])

-- one after the other
infixr 5 ◌⋅◌
abbrev pub ◌⋅◌ : (List Lexeme → Type 0) → (List Lexeme → Type 0) → List Lexeme → Type 0
(Front ⋅ Back) ts = (us vs : List Lexeme) × (ts ≡ us ++ vs) × Front us × Back vs

-- { item }
abbrev pub Repeated : {A : Type 0} → (A → List Lexeme → Type 0) → List A → List Lexeme → Type 0
Repeated Is [] = λ ts. ts ≡ []
Repeated Is (x ∷ xs) = Is x ⋅ Repeated Is xs

-- item { "," item }
abbrev pub IsCommaList : {A : Type 0} → (A → List Lexeme → Type 0) → List A → List Lexeme → Type 0
IsCommaList Is [] = λ ts. ⊥
IsCommaList Is (x ∷ xs) = Is x ⋅ Repeated (λ y. Sign kind.Comma ⋅ Is y) xs

-- [ "(" [ items ] ")" ]
abbrev pub IsOptionalList : {A : Type 0} → (A → List Lexeme → Type 0) → List A → List Lexeme → Type 0
IsOptionalList Is [] = λ ts. (ts ≡ []) ⊎ (Sign kind.LeftParenthesis ⋅ Sign kind.RightParenthesis) ts
IsOptionalList Is (x ∷ xs) = Sign kind.LeftParenthesis ⋅ IsCommaList Is (x ∷ xs) ⋅ Sign kind.RightParenthesis

-- ---- expressions

-- func = "sin" | "cos" | "tan" | "exp" | "ln" | "sqrt"
abbrev pub function_kind : Function → TokenKind
function_kind Sin = kind.Sin
function_kind Cos = kind.Cos
function_kind Tan = kind.Tan
function_kind Exp = kind.Exp
function_kind Ln = kind.Ln
function_kind Sqrt = kind.Sqrt

mutual
  -- expr = term { ("+" | "-") term }
  pub data IsExpression : Formula → List Lexeme → Type 0 where
    OneTerm : {f : Formula} {us : List Lexeme} → IsTerm f us → IsExpression f us
    Sum : {f g : Formula} {us vs : List Lexeme} (plus : Lexeme) → IsExpression f us → plus.kind ≡ kind.Plus →
        IsTerm g vs → IsExpression (Binary Add f g) (us ++ plus ∷ vs)
    Difference : {f g : Formula} {us vs : List Lexeme} (minus : Lexeme) → IsExpression f us → minus.kind ≡ kind.Minus →
        IsTerm g vs → IsExpression (Binary Subtract f g) (us ++ minus ∷ vs)

  -- term = power { ("*" | "/") power }
  pub data IsTerm : Formula → List Lexeme → Type 0 where
    OnePower : {f : Formula} {us : List Lexeme} → IsPower f us → IsTerm f us
    Product : {f g : Formula} {us vs : List Lexeme} (star : Lexeme) → IsTerm f us → star.kind ≡ kind.Star →
        IsPower g vs → IsTerm (Binary Multiply f g) (us ++ star ∷ vs)
    Quotient : {f g : Formula} {us vs : List Lexeme} (slash : Lexeme) → IsTerm f us → slash.kind ≡ kind.Slash →
        IsPower g vs → IsTerm (Binary Divide f g) (us ++ slash ∷ vs)

  -- power = factor [ "^" power ]
  pub data IsPower : Formula → List Lexeme → Type 0 where
    OneFactor : {f : Formula} {us : List Lexeme} → IsFactor f us → IsPower f us
    ToThePower : {f g : Formula} {us vs : List Lexeme} (caret : Lexeme) → IsFactor f us → caret.kind ≡ kind.Caret →
        IsPower g vs → IsPower (Binary Power f g) (us ++ caret ∷ vs)

  -- factor = "-" factor | real | nat | "pi" | id | "(" expr ")" | func "(" expr ")"
  pub data IsFactor : Formula → List Lexeme → Type 0 where
    Negative : {f : Formula} {us : List Lexeme} (minus : Lexeme) → minus.kind ≡ kind.Minus → IsFactor f us →
        IsFactor (Negate f) (minus ∷ us)
    RealNumber : (real : Lexeme) → real.kind ≡ kind.Real → IsFactor (Number real.text) (real ∷ [])
    WholeNumber : (natural : Lexeme) → natural.kind ≡ kind.Natural → IsFactor (Number natural.text) (natural ∷ [])
    PiWord : (word : Lexeme) → word.kind ≡ kind.Pi → IsFactor Pi (word ∷ [])
    Parameter : (name : Lexeme) → name.kind ≡ kind.Identifier → IsFactor (Name name.text) (name ∷ [])
    InParentheses : {f : Formula} {us : List Lexeme} (left right : Lexeme) → left.kind ≡ kind.LeftParenthesis →
        IsExpression f us → right.kind ≡ kind.RightParenthesis → IsFactor f (left ∷ us ++ right ∷ [])
    ValueOf : {f : Formula} {us : List Lexeme} (function : Function) (word left right : Lexeme) →
        word.kind ≡ function_kind function → left.kind ≡ kind.LeftParenthesis → IsExpression f us →
        right.kind ≡ kind.RightParenthesis → IsFactor (Call function f) (word ∷ left ∷ us ++ right ∷ [])

-- ---- statements

-- id
abbrev pub IsIdentifier : List ℕ → List Lexeme → Type 0
IsIdentifier = Word kind.Identifier

-- nat
abbrev pub IsNatural : List ℕ → List Lexeme → Type 0
IsNatural = Word kind.Natural

-- name = id | "U" | "CX"
abbrev pub IsName : Callee → List Lexeme → Type 0
IsName (Declared name) = IsIdentifier name
IsName U = Sign kind.U
IsName Cx = Sign kind.Cx

-- arg = id [ "[" nat "]" ]
abbrev pub IsIndex : Option (List ℕ) → List Lexeme → Type 0
IsIndex None = λ ts. ts ≡ []
IsIndex (Some index) = Sign kind.LeftBracket ⋅ IsNatural index ⋅ Sign kind.RightBracket

abbrev pub IsArgument : Operand → List Lexeme → Type 0
IsArgument argument = IsIdentifier argument.register ⋅ IsIndex argument.index

-- args = arg { "," arg }
abbrev pub IsArguments : List Operand → List Lexeme → Type 0
IsArguments = IsCommaList IsArgument

-- ids = id { "," id }
abbrev pub IsIdentifiers : List (List ℕ) → List Lexeme → Type 0
IsIdentifiers = IsCommaList IsIdentifier

-- [ "(" [ exprs ] ")" ]
abbrev pub IsAngles : List Formula → List Lexeme → Type 0
IsAngles = IsOptionalList IsExpression

-- [ "(" [ ids ] ")" ]
abbrev pub IsParameters : List (List ℕ) → List Lexeme → Type 0
IsParameters = IsOptionalList IsIdentifier

-- qop = name [ "(" [ exprs ] ")" ] args ";" | "measure" arg "->" arg ";" | "reset" arg ";"
abbrev pub IsQuantumOperation : Action → List Lexeme → Type 0
IsQuantumOperation (Applied a) = IsName a.gate ⋅ IsAngles a.angles ⋅ IsArguments a.qubits ⋅ Sign kind.Semicolon
IsQuantumOperation (Measured from to) =
    Sign kind.Measure ⋅ IsArgument from ⋅ Sign kind.Arrow ⋅ IsArgument to ⋅ Sign kind.Semicolon
IsQuantumOperation (Reset argument) = Sign kind.Reset ⋅ IsArgument argument ⋅ Sign kind.Semicolon

-- body = name [ "(" [ exprs ] ")" ] ids ";" | "barrier" ids ";"
abbrev pub IsBodyStatement : BodySentence → List Lexeme → Type 0
IsBodyStatement (BodyApplied a) = IsName a.gate ⋅ IsAngles a.angles ⋅ IsIdentifiers a.qubits ⋅ Sign kind.Semicolon
IsBodyStatement (BodyBarrier qubits) = Sign kind.Barrier ⋅ IsIdentifiers qubits ⋅ Sign kind.Semicolon

-- statement = "OPENQASM" real ";" | "include" string ";"
--           | ("qreg" | "creg") id "[" nat "]" ";"
--           | "gate" id [ "(" [ ids ] ")" ] ids "{" { body } "}"
--           | "opaque" id [ "(" [ ids ] ")" ] ids ";"
--           | "if" "(" id "==" nat ")" qop | "barrier" args ";" | qop
abbrev pub IsStatement : Sentence → List Lexeme → Type 0
IsStatement (Version real) = Sign kind.Openqasm ⋅ Word kind.Real real ⋅ Sign kind.Semicolon
IsStatement (Include text) = Sign kind.Include ⋅ Word kind.Text text ⋅ Sign kind.Semicolon
IsStatement (QubitRegister name size) = Sign kind.Qreg ⋅ IsIdentifier name ⋅ IsIndex (Some size) ⋅ Sign kind.Semicolon
IsStatement (BitRegister name size) = Sign kind.Creg ⋅ IsIdentifier name ⋅ IsIndex (Some size) ⋅ Sign kind.Semicolon
IsStatement (DeclareGate gate) =
    Sign kind.Gate ⋅ IsIdentifier gate.name ⋅ IsParameters gate.parameters ⋅ IsIdentifiers gate.qubits
    ⋅ Sign kind.LeftBrace ⋅ Repeated IsBodyStatement gate.body ⋅ Sign kind.RightBrace
IsStatement (Opaque name parameters qubits) =
    Sign kind.Opaque ⋅ IsIdentifier name ⋅ IsParameters parameters ⋅ IsIdentifiers qubits ⋅ Sign kind.Semicolon
IsStatement (If register value action) =
    Sign kind.If ⋅ Sign kind.LeftParenthesis ⋅ IsIdentifier register ⋅ Sign kind.Equals ⋅ IsNatural value
    ⋅ Sign kind.RightParenthesis ⋅ IsQuantumOperation action
IsStatement (Barrier arguments) = Sign kind.Barrier ⋅ IsArguments arguments ⋅ Sign kind.Semicolon
IsStatement (Act action) = IsQuantumOperation action

-- ---- programs

-- the first token's place
abbrev pub BeginsAt : List Lexeme → ℕ → Type 0
BeginsAt ts place = (t : Lexeme) × (more : List Lexeme) × (ts ≡ t ∷ more) × (t.place ≡ place)

-- program = { statement }, each with the place of its first token
abbrev pub IsProgram : List Lexeme → List Placed → Type 0
IsProgram ts [] = ts ≡ []
IsProgram ts (s ∷ statements) =
    (us vs : List Lexeme) × (ts ≡ us ++ vs) × BeginsAt us s.place × IsStatement s.sentence us × IsProgram vs statements

-- the tokens begin with this statement, and these are behind it
abbrev pub IsFirstStatement : Placed → List Lexeme → List Lexeme → Type 0
IsFirstStatement s ts rest = (us : List Lexeme) × (ts ≡ us ++ rest) × BeginsAt us s.place × IsStatement s.sentence us

-- a prefix of the tokens is a statement
abbrev pub BeginsWithStatement : List Lexeme → Type 0
BeginsWithStatement ts = (s : Sentence) × (us more : List Lexeme) × (ts ≡ us ++ more) × IsStatement s us

-- after whole statements stand tokens, the first of them at this place, of which no prefix is a statement
abbrev pub IsSyntaxFault : List Lexeme → ℕ → Type 0
IsSyntaxFault ts at =
    (before rest : List Lexeme) × (statements : List Placed) × (ts ≡ before ++ rest) × IsProgram before statements
    × BeginsAt rest at × (BeginsWithStatement rest → ⊥)
