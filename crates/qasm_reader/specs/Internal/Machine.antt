-- The reading of an expression token by token: what is put out so far in postfix order, and what waits.
use Rattle.std.specs.Prelude.{ℕ, List, [], ◌∷◌, ◌++◌, Bool, true, false, Option, None, Some, nat_le, if◌then◌else◌, map}
use Rattle.std.specs.Prelude.{reverse}
use Rattle.qasm_lexer.specs.declared.token.TokenKind.{TokenKind}
use Rattle.qasm_lexer.specs.declared.token.TokenKind.TheVariants as kind
use Rattle.qasm_lexer.specs.Tokens.{Lexeme}
use Rattle.qasm_reader.specs.declared.expression.Function.{Function}
use Rattle.qasm_reader.specs.declared.expression.Function.TheVariants.{Sin, Cos, Tan, Exp, Ln, Sqrt}
use Rattle.qasm_reader.specs.declared.expression.Operator.{Operator}
use Rattle.qasm_reader.specs.declared.expression.Operator.TheVariants.{Add, Subtract, Multiply, Divide, Power}
use Rattle.qasm_reader.specs.declared.machine.Awaited.{Awaited}
use Rattle.qasm_reader.specs.declared.machine.Awaited.TheVariants as awaited
use Rattle.qasm_reader.specs.declared.machine.Pending.{Pending}
use Rattle.qasm_reader.specs.declared.machine.Pending.TheVariants as pending
use Rattle.qasm_reader.specs.declared.machine.Machine.{Machine}
use Rattle.qasm_reader.specs.Syntax.{Formula}
use Rattle.qasm_reader.specs.Items.{entry}
use Rattle.qasm_reader.specs.Postfix.{Entry, NumberEntry, PiEntry, NameEntry, NegateEntry, BinaryEntry, CallEntry}
use Rattle.qasm_reader.specs.Postfix.{formula_of}

pub record MachineState : Type 0 where
  pub awaited : Awaited
  pub output : List Entry
  -- the last that came stands first
  pub pending : List Pending

abbrev pub machine_state : Machine → MachineState
machine_state m = record { awaited = m.awaited; output = map entry m.output.items; pending = reverse m.pending.items }

abbrev pub start : MachineState
start = record { awaited = awaited.Operand; output = []; pending = [] }

-- ---- kinds of tokens

abbrev pub operand_of : TokenKind → List ℕ → Option Entry
operand_of kind.Real text = Some (NumberEntry text)
operand_of kind.Natural text = Some (NumberEntry text)
operand_of kind.Pi text = Some PiEntry
operand_of kind.Identifier text = Some (NameEntry text)
operand_of _ text = None

abbrev pub prefix_of : TokenKind → Option Pending
prefix_of kind.Minus = Some pending.Negate
prefix_of kind.LeftParenthesis = Some pending.Parenthesis
prefix_of _ = None

abbrev pub function_of : TokenKind → Option Function
function_of kind.Sin = Some Sin
function_of kind.Cos = Some Cos
function_of kind.Tan = Some Tan
function_of kind.Exp = Some Exp
function_of kind.Ln = Some Ln
function_of kind.Sqrt = Some Sqrt
function_of _ = None

abbrev pub operator_of : TokenKind → Option Operator
operator_of kind.Plus = Some Add
operator_of kind.Minus = Some Subtract
operator_of kind.Star = Some Multiply
operator_of kind.Slash = Some Divide
operator_of kind.Caret = Some Power
operator_of _ = None

abbrev pub is_right : TokenKind → Bool
is_right kind.RightParenthesis = true
is_right _ = false

abbrev pub is_left : TokenKind → Bool
is_left kind.LeftParenthesis = true
is_left _ = false

-- ---- what binds how strongly

abbrev pub strength : Operator → ℕ
strength Add = 1
strength Subtract = 1
strength Multiply = 2
strength Divide = 2
strength Power = 3

-- what is at least so strong is applied before the operator comes
abbrev pub bound : Operator → ℕ
bound Add = 1
bound Subtract = 1
bound Multiply = 2
bound Divide = 2
bound Power = 4

-- the item of what waits, if it is at least so strong
abbrev pub released : ℕ → Pending → Option Entry
released b pending.Negate = Some NegateEntry
released b (pending.Binary operator) = if nat_le b (strength operator) then Some (BinaryEntry operator) else None
released b pending.Parenthesis = None
released b (pending.Call function) = None

abbrev pub with_entry : {X : Type 0} → Option Entry → X → (Entry → X) → X
with_entry None stopped go = stopped
with_entry (Some e) stopped go = go e

-- all that wait and are at least so strong are put out, from the last that came on
abbrev pub release : ℕ → List Entry → List Pending → List Entry × List Pending
release b output [] = (output, [])
release b output (p ∷ ps) = with_entry (released b p) (output, p ∷ ps) (λ e. release b (output ++ e ∷ []) ps)

-- ---- steps: the state after a token, and whether the token belongs to the expression

abbrev pub Move : Type 0
Move = Bool × MachineState

abbrev pub on_function : Option Function → MachineState → Move
on_function None s = (false, s)
on_function (Some f) s = (true, record s { awaited = awaited.Parenthesis f })

abbrev pub on_prefix : Option Pending → TokenKind → MachineState → Move
on_prefix None k s = on_function (function_of k) s
on_prefix (Some p) k s = (true, record s { pending = p ∷ s.pending })

abbrev pub on_operand : Option Entry → TokenKind → MachineState → Move
on_operand None k s = on_prefix (prefix_of k) k s
on_operand (Some e) k s =
    (true, record { awaited = awaited.Operator; output = s.output ++ e ∷ []; pending = s.pending })

-- after the name of a function
abbrev pub on_left : Bool → Function → MachineState → Move
on_left false f s = (false, s)
on_left true f s = (true, record { awaited = awaited.Operand; output = s.output; pending = pending.Call f ∷ s.pending })

-- a parenthesis that closes, where none is open stands after the expression
abbrev pub closed : List Entry × List Pending → Move
closed (output, []) = (false, record { awaited = awaited.Operator; output = output; pending = [] })
closed (output, pending.Parenthesis ∷ ps) = (true, record { awaited = awaited.Operator; output = output; pending = ps })
closed (output, pending.Call f ∷ ps) =
    (true, record { awaited = awaited.Operator; output = output ++ CallEntry f ∷ []; pending = ps })
closed (output, p ∷ ps) = (false, record { awaited = awaited.Operator; output = output; pending = p ∷ ps })

abbrev pub on_right : Bool → MachineState → Move
on_right false s = (false, s)
on_right true s = closed (release 1 s.output s.pending)

abbrev pub with_operator : Operator → List Entry × List Pending → Move
with_operator operator (output, ps) =
    (true, record { awaited = awaited.Operand; output = output; pending = pending.Binary operator ∷ ps })

abbrev pub on_operator : Option Operator → TokenKind → MachineState → Move
on_operator None k s = on_right (is_right k) s
on_operator (Some operator) k s = with_operator operator (release (bound operator) s.output s.pending)

abbrev pub step_by : Awaited → TokenKind → List ℕ → MachineState → Move
step_by awaited.Operand k text s = on_operand (operand_of k text) k s
step_by (awaited.Parenthesis f) k text s = on_left (is_left k) f s
step_by awaited.Operator k text s = on_operator (operator_of k) k s

unfoldable pub step : MachineState → TokenKind → List ℕ → Move
step s k text = step_by s.awaited k text s

-- ---- whole expressions

-- what is put out at the end, if nothing waits for an operand or a parenthesis
abbrev pub all_out : List Entry × List Pending → Option (List Entry)
all_out (output, []) = Some output
all_out (output, p ∷ ps) = None

abbrev pub finished_by : Awaited → List Entry → List Pending → Option (List Entry)
finished_by awaited.Operator output ps = all_out (release 1 output ps)
finished_by awaited.Operand output ps = None
finished_by (awaited.Parenthesis f) output ps = None

unfoldable pub finished : MachineState → Option (List Entry)
finished s = finished_by s.awaited s.output s.pending

abbrev pub followed_by : Option (List Entry) → List Lexeme → Option (List Entry × List Lexeme)
followed_by None rest = None
followed_by (Some output) rest = Some (output, rest)

-- the state where the expression ends, and what follows
abbrev pub go_on : Move → List Lexeme → (MachineState → MachineState × List Lexeme) → MachineState × List Lexeme
go_on (true, s) rest go = go s
go_on (false, s) rest go = (s, rest)

unfoldable pub run : List Lexeme → MachineState → MachineState × List Lexeme
run [] s = (s, [])
run (t ∷ ts) s = go_on (step s t.kind t.text) (t ∷ ts) (run ts)

abbrev pub entries_at : MachineState × List Lexeme → Option (List Entry × List Lexeme)
entries_at (s, rest) = followed_by (finished s) rest

abbrev pub as_formula : Option (List Entry × List Lexeme) → Option (Formula × List Lexeme)
as_formula None = None
as_formula (Some x) = Some (formula_of x.0, x.1)

unfoldable pub take_entries : List Lexeme → Option (List Entry × List Lexeme)
take_entries ts = entries_at (run ts start)

unfoldable pub take_expression : List Lexeme → Option (Formula × List Lexeme)
take_expression ts = as_formula (take_entries ts)
