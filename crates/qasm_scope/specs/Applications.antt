-- Applications in statements: what arguments stand for, and the instances of an application.
-- Cross, Bishop, Smolin and Gambetta, "Open quantum assembly language" (arXiv 1707.03429), on gates applied to
-- registers.
use Rattle.std.specs.Prelude.{ℕ, ◌+◌, Bool, false, ◌||◌, List, [], ◌∷◌, map, Option, None, Some, get_or}
use Rattle.std.specs.List.{list_any, flat_map, filter_map, range_with_len}
use Rattle.qasm_reader.specs.Syntax.{Operand, Apply}
use Rattle.qasm_scope.specs.Angles.{angles_of}
use Rattle.qasm_scope.specs.Calls.{Event, call, expand_declared}
use Rattle.qasm_scope.specs.Scope.{Lookup, Scope, lookup_in, numeral}

-- what an argument stands for: one qubit or bit, or a register by its first one and its size
pub data Range : Type 0 where
  Single : ℕ → Range
  Register : ℕ → ℕ → Range

-- what an index of a register stands for, and a register without one
abbrev pub range_in : Option (ℕ × ℕ) → Option (List ℕ) → Range
range_in (Some register) (Some index) = Single (register.0 + numeral index)
range_in (Some register) None = Register register.0 register.1
range_in None index = Single 0

-- the register of qubits that an argument names
abbrev pub register_of : Lookup → Operand → Option (ℕ × ℕ)
register_of names operand = names.qubits operand.register

abbrev pub range_of : Lookup → Operand → Range
range_of names operand = range_in (register_of names operand) operand.index

-- the sizes of the registers among them
abbrev pub register_size : Range → Option ℕ
register_size (Single place) = None
register_size (Register first size) = Some size

abbrev pub register_sizes : List Range → List ℕ
register_sizes ranges = filter_map register_size ranges

-- the qubit or bit that stands for a range at an index
abbrev pub element_at : ℕ → Range → ℕ
element_at index (Single place) = place
element_at index (Register first size) = first + index

-- the instances, by rising index: one for each index of the registers, which have one size, or one alone
abbrev pub instances : List Range → List (List ℕ)
instances ranges =
    map (λ index. map (element_at index) ranges) (range_with_len 0 (get_or (register_sizes ranges) 0 1))

-- one of a list is the same, by this test, as a later one
abbrev pub has_twice : {A : Type 0} → (A → A → Bool) → List A → Bool
has_twice same [] = false
has_twice same (x ∷ xs) = list_any (λ other. same other x) xs || has_twice same xs

abbrev pub ranges_of : Lookup → List Operand → List Range
ranges_of names operands = map (range_of names) operands

-- what an application comes to: its instances, one after the other
abbrev pub application_events : Scope → Apply → List Event
application_events scope a =
    flat_map (λ qubits. call (expand_declared scope) a.gate 1 (angles_of [] [] a.angles) qubits)
    (instances (ranges_of (lookup_in scope) a.qubits))
