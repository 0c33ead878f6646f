-- Arguments of applications, in numbers that are cut off: a private matter of the program.
use Rattle.std.specs.Prelude.{ℕ, ◌+◌, ◌-◌, ◌^◌, ◌==◌, Bool, false, ◌&&◌, ◌||◌, if◌then◌else◌, ◌≡◌, List, [], ◌∷◌}
use Rattle.std.specs.Prelude.{map, min, get_or, Option, None, Some, Result, nat_le, nat_lt}
use Rattle.std.specs.List.{flat_map, list_any, range_with_len}
use Rattle.qasm_reader.specs.Syntax.{Operand, Apply}
use Rattle.qasm_scope.specs.Applications.{Range, Single, Register, element_at, register_of, register_sizes}
use Rattle.qasm_scope.specs.Angles.{is_unsupported, numbered, places_among}
use Rattle.qasm_names.specs.Checks.{Symbols, kept_by, lookup_by}
use Rattle.qasm_names.specs.Kept.{KeptNames, called_for}
use Rattle.qasm_scope.specs.Faults.{has_no_register, has_past_index, has_unknown, has_wrong_count}
use Rattle.qasm_scope.specs.Scope.{Lookup, numeral}
use Rattle.qasm_angle.specs.Trees.{Tree}
use Rattle.qasm_angle.specs.declared.angle.Angle.{Angle}
use Rattle.qasm_scope.specs.Calls.{Event}
use Rattle.qasm_names.specs.declared.gates.CalledGate.{CalledGate}
use Rattle.qasm_unroll.specs.declared.applications.LastRegister.{LastRegister}
use Rattle.qasm_unroll.specs.declared.applications.Span.{Span}
use Rattle.qasm_unroll.specs.Internal.KeptCalls.{Numbered, called_events, values_of}
use Rattle.qasm_scope.specs.declared.causes.Cause.{Cause}
use Rattle.qasm_scope.specs.declared.causes.Cause.TheVariants as cause
use Rattle.qasm_angle.specs.Trees.{Tree}
use Rattle.qasm_unroll.specs.declared.applications.Span.TheVariants as span

abbrev pub span_range : Span → Range
span_range (span.Single qubit) = Single qubit
span_range (span.Register first size) = Register first size

-- what the name that was looked up last stands for
abbrev pub IsLastRegister : Lookup → LastRegister → Type 0
IsLastRegister names last = last.register ≡ names.qubits last.name.now

-- the argument is no register of qubits, nor one of the qubits that it has
abbrev pub is_missing : Lookup → Operand → Bool
is_missing names operand = has_no_register names operand || has_past_index names operand

-- one of the arguments isn't
abbrev pub any_missing : Lookup → List Operand → Bool
any_missing names operands = list_any (is_missing names) operands

-- sums past the largest number of the program are cut off there
abbrev pub span_in : Option (ℕ × ℕ) → Option (List ℕ) → Range
span_in (Some register) (Some index) = Single (min (register.0 + min (numeral index) (2 ^ 64 - 1)) (2 ^ 64 - 1))
span_in (Some register) None = Register register.0 register.1
span_in None index = Single 0

abbrev pub span_of : Lookup → Operand → Range
span_of names operand = span_in (register_of names operand) operand.index

-- a qubit is one of so many from the first on
abbrev pub is_within : ℕ → ℕ → ℕ → Bool
is_within qubit first count = nat_le first qubit && nat_lt (qubit - first) count

-- two ranges are the same qubit in one of so many instances
abbrev pub overlaps : ℕ → Range → Range → Bool
overlaps count (Single qubit) (Single same) = same == qubit && nat_lt 0 count
overlaps count (Single qubit) (Register first size) = is_within qubit first count
overlaps count (Register first size) (Single qubit) = is_within qubit first count
overlaps count (Register first size) (Register same size') = same == first && nat_lt 0 count

abbrev pub any_overlap : ℕ → List Range → Bool
any_overlap count [] = false
any_overlap count (t ∷ ranges) = list_any (overlaps count t) ranges || any_overlap count ranges

-- the qubit of a range at an index, as a circuit's qubit: cut off at the largest one
abbrev pub cut_element_at : ℕ → Range → ℕ
cut_element_at index t = min (element_at index t) (2 ^ 16 - 1)

abbrev pub cut_instance : List Range → ℕ → List ℕ
cut_instance ranges index = map (cut_element_at index) ranges

-- how many instances there are: one for each index of the registers, which have one size, or one alone
abbrev pub instance_count : List ℕ → ℕ
instance_count sizes = get_or sizes 0 1

abbrev pub cut_instances : List Range → List (List ℕ)
cut_instances ranges = map (cut_instance ranges) (range_with_len 0 (instance_count (register_sizes ranges)))

-- what the call of a gate with these angles in the instance at an index comes to
abbrev pub instance_events : CalledGate → List Tree → List Span → ℕ → Numbered → List Event
instance_events called angles spans index numbered =
    called_events numbered called 1 (values_of angles []) (cut_instance (map span_range spans) index)

-- what the calls of a gate in all instances come to
abbrev pub instances_events : Numbered → CalledGate → Result (List Angle) Cause → List Range → List Event
instances_events numbered called values ranges =
    flat_map (called_events numbered called 1 values) (cut_instances ranges)

-- the argument is one, and this is what it stands for
pub record IsSpan (names : Lookup) (operand : Operand) (range : Range) : Type 0 where
  pub a_register : has_no_register names operand ≡ false
  pub within : has_past_index names operand ≡ false
  pub same : range ≡ span_of names operand

-- each argument is a register of qubits or one of the qubits that it has, and these are what they stand for
pub record AreSpans (names : Lookup) (operands : List Operand) (ranges : List Range) : Type 0 where
  pub all_registers : list_any (has_no_register names) operands ≡ false
  pub all_within : list_any (has_past_index names) operands ≡ false
  pub same : ranges ≡ map (span_of names) operands

-- an application is that of this gate with these angles to these qubits, its sizes and repeated qubits aside
pub record IsResolvedIn (names : Lookup) (kept : KeptNames) (a : Apply) (gate : CalledGate) (angles : List Tree)
    (ranges : List Range) : Type 0 where
  pub supported : list_any is_unsupported a.angles ≡ false
  pub all_known : has_unknown names a ≡ false
  pub same_counts : has_wrong_count names a ≡ false
  pub within : list_any (has_past_index names) a.qubits ≡ false
  pub same_gate : gate ≡ called_for kept a.gate
  pub same_angles : angles ≡ map (numbered (places_among [])) a.angles
  pub same_spans : ranges ≡ map (span_of names) a.qubits

abbrev pub IsResolved : Symbols → Apply → CalledGate → List Tree → List Range → Type 0
IsResolved symbols a gate angles ranges = IsResolvedIn (lookup_by symbols) (kept_by symbols) a gate angles ranges

-- something in it isn't known, isn't supported, or isn't there
abbrev pub is_unresolved : Lookup → Apply → Bool
is_unresolved names a =
    list_any is_unsupported a.angles || has_unknown names a || has_wrong_count names a
    || list_any (has_past_index names) a.qubits

-- the first cause of one that isn't resolved
abbrev pub unresolved_cause : Bool → Bool → Bool → Cause
unresolved_cause unsupported unknown wrong_count =
    if unsupported then cause.Unsupported else
    if unknown then cause.Unknown else
    if wrong_count then cause.WrongCount else cause.Index

-- and of one that is
abbrev pub resolved_cause : Bool → Bool → Option Cause
resolved_cause sizes same_qubit =
    if sizes then Some cause.Sizes else
    if same_qubit then Some cause.SameQubit else None
