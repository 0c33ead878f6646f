-- What the table of the header's gates says: the calls that their bodies are kept as, after so many other gates.
use Rattle.std.specs.Prelude.{◌≡◌, ℕ, zero, suc, ◌+◌, ◌^◌, ◌<◌, Bool, true, false}
use Rattle.std.specs.Prelude.{List, [], ◌∷◌, length, map, codes, Option, None, Some}
use Rattle.std.specs.List.{list_all}
use Rattle.std.specs.Borrow.{Bor}
use Rattle.qasm_angle.specs.Literals.{literal_value}
use Rattle.qasm_angle.specs.Ratio.{Ratio}
use Rattle.qasm_angle.specs.declared.expression.Operation.TheVariants.{Divide}
use Rattle.qasm_angle.specs.Trees as tree
use Rattle.qasm_reader.specs.Syntax.{GateForm}
use Rattle.qasm_scope.specs.Scope.{Scope, Gate, declared}
use Rattle.qasm_scope.proofs.HeaderScope.{knows}
use Rattle.qasm_names.specs.declared.gates.CalledGate.{CalledGate}
use Rattle.qasm_names.specs.declared.gates.CalledGate.TheVariants as called_gate
use Rattle.qasm_names.specs.declared.header.Shared.{Shared}
use Rattle.qasm_names.specs.declared.header_table.Divisor.{Divisor}
use Rattle.qasm_names.specs.declared.header_table.Divisor.TheVariants as divisor
use Rattle.qasm_names.specs.declared.header_table.HeaderAngle.{HeaderAngle}
use Rattle.qasm_names.specs.declared.header_table.HeaderCalled.{HeaderCalled}
use Rattle.qasm_names.specs.declared.header_table.HeaderCalled.TheVariants as header_called
use Rattle.qasm_names.specs.declared.header_table.HeaderGate.{HeaderGate}
use Rattle.qasm_names.specs.declared.header_table.Turn.{Turn}
use Rattle.qasm_names.specs.declared.header_table.Turn.TheVariants as turn
use Rattle.qasm_names.specs.Kept.{KeptCall, form_calls}

-- the file that the header stands for
abbrev pub header_name : List ℕ
header_name = codes "\"qelib1.inc\""

-- the header's first gate has a number after which others have theirs, and the numbers are read
pub record IsShared (shared : Shared) : Type 0 where
  pub few : shared.base < 2 ^ 63
  pub zero_is : shared.zero ≡ literal_value (codes "0")
  pub two_is : shared.two ≡ literal_value (codes "2")
  pub four_is : shared.four ≡ literal_value (codes "4")

-- an angle but for its sign and its divisor
abbrev pub turn_tree : Turn → tree.Tree
turn_tree turn.Zero = tree.Number (literal_value (codes "0"))
turn_tree turn.Pi = tree.Pi
turn_tree (turn.Parameter index) = tree.Parameter index

-- an angle with its sign
abbrev pub signed_tree : Bool → tree.Tree → tree.Tree
signed_tree true t = tree.Negate t
signed_tree false t = t

-- an angle by its divisor
abbrev pub divided_tree : Divisor → tree.Tree → tree.Tree
divided_tree divisor.One t = t
divided_tree divisor.Two t = tree.Binary Divide t (tree.Number (literal_value (codes "2")))
divided_tree divisor.Four t = tree.Binary Divide t (tree.Number (literal_value (codes "4")))

-- an angle divided by a number, if there is one
abbrev pub divided_by : Option (Option Ratio) → tree.Tree → tree.Tree
divided_by None t = t
divided_by (Some number) t = tree.Binary Divide t (tree.Number number)

abbrev pub angle_tree : HeaderAngle → tree.Tree
angle_tree a = divided_tree a.divisor (signed_tree a.negated (turn_tree a.turn))

-- so many more
abbrev pub after : ℕ → ℕ → ℕ
after zero base = base
after (suc n) base = 1 + after n base

-- the gate that is called, where the header's first gate has this number
abbrev pub called_after : ℕ → HeaderCalled → CalledGate
called_after base header_called.U = called_gate.U
called_after base header_called.Cx = called_gate.Cx
called_after base (header_called.Gate number) = called_gate.Gate (after number base)

abbrev pub call_after : ℕ → HeaderCalled × Bor (List HeaderAngle) × Bor (List ℕ) → KeptCall
call_after base c = record {
  called = called_after base c.0;
  angles = map angle_tree c.1.now;
  qubits = c.2.now;
}

abbrev pub body_after : ℕ → HeaderGate → List KeptCall
body_after base gate = map (call_after base) gate.calls.now

-- the row is that of the gate which this form declares in the scope
abbrev pub IsRow : ℕ → Scope → HeaderGate → GateForm → Type 0
IsRow base scope gate form =
    (gate.name.now ≡ form.name) × (gate.angles ≡ length form.parameters) × (gate.qubits ≡ length form.qubits)
    × (body_after base gate ≡ form_calls scope form)

-- each is, in the scope after those before it
abbrev pub AreFirstRows : List HeaderGate → List GateForm → ℕ → Scope → Type 0
AreFirstRows [] [] base scope = Unit {0}
AreFirstRows [] (form ∷ forms) base scope = ⊥
AreFirstRows (gate ∷ gates) [] base scope = ⊥
AreFirstRows (gate ∷ gates) (form ∷ forms) base scope =
    IsRow base scope gate form × AreFirstRows gates forms base (declared form.name (Gate form) ∷ scope)

-- each is in this scope, which has all gates that it calls
abbrev pub AreFurtherRows : List HeaderGate → List GateForm → ℕ → Scope → Type 0
AreFurtherRows [] [] base scope = Unit {0}
AreFurtherRows [] (form ∷ forms) base scope = ⊥
AreFurtherRows (gate ∷ gates) [] base scope = ⊥
AreFurtherRows (gate ∷ gates) (form ∷ forms) base scope =
    IsRow base scope gate form × (list_all (knows scope) form.body ≡ true) × AreFurtherRows gates forms base scope
