-- What each step of the parser answers: what it reads at the start of the tokens and the tokens that follow, or none.
use Rattle.std.specs.Prelude.{◌≡◌, ℕ, zero, suc, List, [], ◌∷◌, ◌++◌, length, map, Bool, Option, None, Some, Result, Ok}
use Rattle.std.specs.Prelude.{Err, if◌then◌else◌}
use denote.Enum.Bare.{sameb}
use denote.Ref.{Bor}
use Rattle.qasm_lexer.specs.contracts.token.TokenKind.{the_type}
use Rattle.qasm_lexer.specs.declared.token.Token.{Token}
use Rattle.qasm_lexer.specs.declared.token.TokenKind.{TokenKind}
use Rattle.qasm_lexer.specs.declared.token.TokenKind.TheVariants as kind
use Rattle.qasm_lexer.specs.Tokens.{Lexeme, lexemes}
use Rattle.qasm_reader.specs.declared.program.GateHeading.{GateHeading}
use Rattle.qasm_reader.specs.declared.step_error.StepError.{StepError}
use Rattle.qasm_reader.specs.declared.step_error.StepError.TheVariants.{Misfit, NoMemory}
use Rattle.qasm_reader.specs.Syntax.{Formula, Operand, Callee, Declared, U, Cx, Action, Applied, Measured, Reset}
use Rattle.qasm_reader.specs.Syntax.{BodySentence, BodyApplied, BodyBarrier, Sentence, Version, Include, QubitRegister}
use Rattle.qasm_reader.specs.Syntax.{BitRegister, DeclareGate, Opaque, If, Barrier, Act}
use Rattle.qasm_reader.specs.Internal.Machine.{take_expression}

-- what a function returned, seen by view, is what is read there, unless memory ran out
abbrev pub Fails : {Y : Type 0} → StepError → Option Y → Type 0
Fails Misfit read = read ≡ None
Fails NoMemory read = Unit {0}

abbrev pub Gives : {X Y : Type 0} → (X → Y) → Result X StepError → Option Y → Type 0
Gives view (Ok x) read = read ≡ Some (view x)
Gives view (Err e) read = Fails e read

-- the same of what is read and of the tokens that follow
abbrev pub Reads : {X Y : Type 0} → (X → Y) → Result (X × Bor (List Token)) StepError → Option (Y × List Lexeme) →
    Type 0
Reads view result read = Gives (λ x. (view x.0, lexemes x.1.now)) result read

infixl 10 ◌>>=◌
abbrev pub ◌>>=◌ : {A B : Type 0} → Option A → (A → Option B) → Option B
None >>= f = None
(Some x) >>= f = f x

-- ---- tokens

-- `==` on kinds
unfoldable pub same_kind : TokenKind → TokenKind → Bool
same_kind = sameb the_type

unfoldable pub after : TokenKind → List Lexeme → Option (List Lexeme)
after k [] = None
after k (t ∷ ts) = if same_kind t.kind k then Some ts else None

unfoldable pub text : TokenKind → List Lexeme → Option (List ℕ × List Lexeme)
text k [] = None
text k (t ∷ ts) = if same_kind t.kind k then Some (t.text, ts) else None

-- ---- lists

abbrev pub with_prefix : {A : Type 0} → List A → Option (List A × List Lexeme) → Option (List A × List Lexeme)
with_prefix prefix None = None
with_prefix prefix (Some x) = Some (prefix ++ x.0, x.1)

-- the turns of a loop: one stops it, gives one item more, or finds none where one is to be
abbrev pub on_turn : {A : Type 0} → Option (Option (A × List Lexeme)) → List Lexeme →
    (List Lexeme → Option (List A × List Lexeme)) → Option (List A × List Lexeme)
on_turn None ts go = None
on_turn (Some None) ts go = Some ([], ts)
on_turn (Some (Some x)) ts go = with_prefix (x.0 ∷ []) (go x.1)

abbrev pub turns : {A : Type 0} → (List Lexeme → Option (Option (A × List Lexeme))) → ℕ → List Lexeme →
    Option (List A × List Lexeme)
turns turn zero ts = None
turns turn (suc n) ts = on_turn (turn ts) ts (turns turn n)

-- each turn takes a token at least
unfoldable pub repeated : {A : Type 0} → (List Lexeme → Option (Option (A × List Lexeme))) → List Lexeme →
    Option (List A × List Lexeme)
repeated turn ts = turns turn (suc (length ts)) ts

abbrev pub one_more : {A : Type 0} → Option (A × List Lexeme) → Option (Option (A × List Lexeme))
one_more None = None
one_more (Some x) = Some (Some x)

-- an item after a comma
abbrev pub comma_turn : {A : Type 0} → (List Lexeme → Option (A × List Lexeme)) → Option (List Lexeme) →
    Option (Option (A × List Lexeme))
comma_turn item None = Some None
comma_turn item (Some ts) = one_more (item ts)

unfoldable pub comma_items : {A : Type 0} → (List Lexeme → Option (A × List Lexeme)) → List Lexeme →
    Option (List A × List Lexeme)
comma_items item = repeated (λ ts. comma_turn item (after kind.Comma ts))

unfoldable pub comma_list : {A : Type 0} → (List Lexeme → Option (A × List Lexeme)) → List Lexeme →
    Option (List A × List Lexeme)
comma_list item ts = do
  first ← item ts
  with_prefix (first.0 ∷ []) (comma_items item first.1)

abbrev pub list_inside : {A : Type 0} → (List Lexeme → Option (A × List Lexeme)) → List Lexeme → Option (List Lexeme) →
    Option (List A × List Lexeme)
list_inside item ts (Some rest) = Some ([], rest)
list_inside item ts None = do
  items ← comma_list item ts
  rest ← after kind.RightParenthesis items.1
  Some (items.0, rest)

abbrev pub list_after : {A : Type 0} → (List Lexeme → Option (A × List Lexeme)) → List Lexeme → Option (List Lexeme) →
    Option (List A × List Lexeme)
list_after item ts None = Some ([], ts)
list_after item ts (Some inside) = list_inside item inside (after kind.RightParenthesis inside)

unfoldable pub optional_list : {A : Type 0} → (List Lexeme → Option (A × List Lexeme)) → List Lexeme →
    Option (List A × List Lexeme)
optional_list item ts = list_after item ts (after kind.LeftParenthesis ts)

-- ---- names and arguments

abbrev pub identifier : List Lexeme → Option (List ℕ × List Lexeme)
identifier = text kind.Identifier

abbrev pub natural : List Lexeme → Option (List ℕ × List Lexeme)
natural = text kind.Natural

unfoldable pub identifiers : List Lexeme → Option (List (List ℕ) × List Lexeme)
identifiers = comma_list identifier

unfoldable pub parameters : List Lexeme → Option (List (List ℕ) × List Lexeme)
parameters = optional_list identifier

abbrev pub callee_of : TokenKind → List ℕ → Option Callee
callee_of kind.Identifier name = Some (Declared name)
callee_of kind.U name = Some U
callee_of kind.Cx name = Some Cx
callee_of _ name = None

unfoldable pub gate_name : List Lexeme → Option (Callee × List Lexeme)
gate_name [] = None
gate_name (t ∷ ts) = do
  gate ← callee_of t.kind t.text
  Some (gate, ts)

abbrev pub index_after : List ℕ → List Lexeme → Option (List Lexeme) → Option (Operand × List Lexeme)
index_after register rest None = Some (record { register = register; index = None }, rest)
index_after register rest (Some inside) = do
  index ← natural inside
  end ← after kind.RightBracket index.1
  Some (record { register = register; index = Some index.0 }, end)

unfoldable pub argument : List Lexeme → Option (Operand × List Lexeme)
argument ts = do
  register ← identifier ts
  index_after register.0 register.1 (after kind.LeftBracket register.1)

unfoldable pub arguments : List Lexeme → Option (List Operand × List Lexeme)
arguments = comma_list argument

unfoldable pub angles : List Lexeme → Option (List Formula × List Lexeme)
angles = optional_list take_expression

-- ---- operations

-- an item and a semicolon
abbrev pub one : {A B : Type 0} → (List Lexeme → Option (A × List Lexeme)) → (A → B) → List Lexeme →
    Option (B × List Lexeme)
one item make ts = do
  found ← item ts
  rest ← after kind.Semicolon found.1
  Some (make found.0, rest)

-- a gate, its angles, its qubits and a semicolon
abbrev pub apply : {A B : Type 0} → (List Lexeme → Option (A × List Lexeme)) → (Callee → List Formula → A → B) →
    List Lexeme → Option (B × List Lexeme)
apply qubits make ts = do
  gate ← gate_name ts
  angles ← angles gate.1
  found ← qubits angles.1
  rest ← after kind.Semicolon found.1
  Some (make gate.0 angles.0 found.0, rest)

unfoldable pub application : List Lexeme → Option (Action × List Lexeme)
application = apply arguments (λ gate angles qubits. Applied (record { gate = gate; angles = angles; qubits = qubits }))

-- after the first word
unfoldable pub measure : List Lexeme → Option (Action × List Lexeme)
measure ts = do
  from ← argument ts
  rest ← after kind.Arrow from.1
  to ← argument rest
  end ← after kind.Semicolon to.1
  Some (Measured from.0 to.0, end)

unfoldable pub reset : List Lexeme → Option (Action × List Lexeme)
reset = one argument Reset

abbrev pub operation_by : TokenKind → List Lexeme → List Lexeme → Option (Action × List Lexeme)
operation_by kind.Measure rest all = measure rest
operation_by kind.Reset rest all = reset rest
operation_by _ rest all = application all

unfoldable pub operation : List Lexeme → Option (Action × List Lexeme)
operation [] = None
operation (t ∷ ts) = operation_by t.kind ts (t ∷ ts)

-- ---- bodies of gates

unfoldable pub body_application : List Lexeme → Option (BodySentence × List Lexeme)
body_application =
    apply identifiers (λ gate angles qubits. BodyApplied (record { gate = gate; angles = angles; qubits = qubits }))

abbrev pub body_barrier : List Lexeme → Option (BodySentence × List Lexeme)
body_barrier = one identifiers BodyBarrier

abbrev pub body_by : Option (List Lexeme) → List Lexeme → Option (BodySentence × List Lexeme)
body_by None all = body_application all
body_by (Some rest) all = body_barrier rest

unfoldable pub body_statement : List Lexeme → Option (BodySentence × List Lexeme)
body_statement ts = body_by (after kind.Barrier ts) ts

abbrev pub body_turn : List Lexeme → Option (List Lexeme) → Option (Option (BodySentence × List Lexeme))
body_turn ts (Some rest) = Some None
body_turn ts None = one_more (body_statement ts)

-- up to the brace that closes it
unfoldable pub body : List Lexeme → Option (List BodySentence × List Lexeme)
body = repeated (λ ts. body_turn ts (after kind.RightBrace ts))

-- ---- statements, after the first word

unfoldable pub version : List Lexeme → Option (Sentence × List Lexeme)
version = one (text kind.Real) Version

unfoldable pub include : List Lexeme → Option (Sentence × List Lexeme)
include = one (text kind.Text) Include

-- name and size
unfoldable pub register : List Lexeme → Option ((List ℕ × List ℕ) × List Lexeme)
register ts = do
  name ← identifier ts
  inside ← after kind.LeftBracket name.1
  size ← natural inside
  following ← after kind.RightBracket size.1
  rest ← after kind.Semicolon following
  Some ((name.0, size.0), rest)

abbrev pub qubit_register : List Lexeme → Option (Sentence × List Lexeme)
qubit_register ts = do
  r ← register ts
  Some (QubitRegister r.0.0 r.0.1, r.1)

abbrev pub bit_register : List Lexeme → Option (Sentence × List Lexeme)
bit_register ts = do
  r ← register ts
  Some (BitRegister r.0.0 r.0.1, r.1)

-- name, parameters and qubits
abbrev pub Heading : Type 0
Heading = List ℕ × (List (List ℕ) × List (List ℕ))

abbrev pub heading_of : GateHeading → Heading
heading_of heading =
    (heading.name.now, (map (λ name. name.now) heading.parameters.items, map (λ name. name.now) heading.qubits.items))

unfoldable pub heading : List Lexeme → Option (Heading × List Lexeme)
heading ts = do
  name ← identifier ts
  parameters ← parameters name.1
  qubits ← identifiers parameters.1
  Some ((name.0, (parameters.0, qubits.0)), qubits.1)

-- with the left brace behind it
unfoldable pub opening : List Lexeme → Option (Heading × List Lexeme)
opening ts = do
  head ← heading ts
  inside ← after kind.LeftBrace head.1
  Some (head.0, inside)

unfoldable pub gate : List Lexeme → Option (Sentence × List Lexeme)
gate ts = do
  head ← opening ts
  body ← body head.1
  rest ← after kind.RightBrace body.1
  Some (DeclareGate (record { name = head.0.0; parameters = head.0.1.0; qubits = head.0.1.1; body = body.0 }), rest)

unfoldable pub opaque : List Lexeme → Option (Sentence × List Lexeme)
opaque ts = do
  head ← heading ts
  rest ← after kind.Semicolon head.1
  Some (Opaque head.0.0 head.0.1.0 head.0.1.1, rest)

unfoldable pub condition : List Lexeme → Option ((List ℕ × List ℕ) × List Lexeme)
condition ts = do
  inside ← after kind.LeftParenthesis ts
  register ← identifier inside
  following ← after kind.Equals register.1
  value ← natural following
  rest ← after kind.RightParenthesis value.1
  Some ((register.0, value.0), rest)

unfoldable pub conditional : List Lexeme → Option (Sentence × List Lexeme)
conditional ts = do
  test ← condition ts
  action ← operation test.1
  Some (If test.0.0 test.0.1 action.0, action.1)

unfoldable pub barrier : List Lexeme → Option (Sentence × List Lexeme)
barrier = one arguments Barrier

abbrev pub act : List Lexeme → Option (Sentence × List Lexeme)
act ts = do
  action ← operation ts
  Some (Act action.0, action.1)

-- a statement that declares no gate
abbrev pub simple_by : TokenKind → List Lexeme → List Lexeme → Option (Sentence × List Lexeme)
simple_by kind.Openqasm rest all = version rest
simple_by kind.Include rest all = include rest
simple_by kind.Qreg rest all = qubit_register rest
simple_by kind.Creg rest all = bit_register rest
simple_by kind.Opaque rest all = opaque rest
simple_by kind.If rest all = conditional rest
simple_by kind.Barrier rest all = barrier rest
simple_by _ rest all = act all

unfoldable pub simple_statement : List Lexeme → Option (Sentence × List Lexeme)
simple_statement [] = None
simple_statement (t ∷ ts) = simple_by t.kind ts (t ∷ ts)

abbrev pub statement_by : TokenKind → List Lexeme → List Lexeme → Option (Sentence × List Lexeme)
statement_by kind.Gate rest all = gate rest
statement_by k rest all = simple_by k rest all

unfoldable pub statement : List Lexeme → Option (Sentence × List Lexeme)
statement [] = None
statement (t ∷ ts) = statement_by t.kind ts (t ∷ ts)
