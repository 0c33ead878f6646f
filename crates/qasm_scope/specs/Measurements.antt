-- Measurements in statements: what they come to, and which qubits and bits were named before.
-- Cross, Bishop, Smolin and Gambetta, "Open quantum assembly language" (arXiv 1707.03429), on measurements.
use Rattle.std.specs.Prelude.{ℕ, ◌+◌, ◌==◌, Bool, true, false, ◌&&◌, not, List, [], map, Option, nat_le, nat_lt}
use Rattle.std.specs.List.{list_any, range_with_len}
use Rattle.zx_gates.specs.declared.elementary.Measure.{Measure}
use Rattle.qasm_reader.specs.Syntax.{Operand, Sentence, Act, Measured}
use Rattle.qasm_scope.specs.Applications.{Range, Single, Register, element_at, range_in, range_of}
use Rattle.qasm_scope.specs.Scope.{Lookup, Scope, lookup_in}

-- the register of bits that an argument names, and what the argument stands for
abbrev pub bit_register_of : Lookup → Operand → Option (ℕ × ℕ)
bit_register_of names operand = names.bits operand.register

abbrev pub bit_range_of : Lookup → Operand → Range
bit_range_of names operand = range_in (bit_register_of names operand) operand.index

-- they are neither two registers of one size, nor a qubit and a bit alone
abbrev pub are_unlike : Range → Range → Bool
are_unlike (Single qubit) (Single bit) = false
are_unlike (Register first size) (Register first_bit bits) = not (bits == size)
are_unlike from to = true

-- how many qubits or bits a range has
abbrev pub count_in : Range → ℕ
count_in (Single place) = 1
count_in (Register first size) = size

-- the measurements of a range into another one, by rising index
abbrev pub measures_of : Range → Range → List Measure
measures_of from to =
    map (λ index. record { qubit = element_at index from; bit = element_at index to })
    (range_with_len 0 (count_in from))

-- what a statement measures
abbrev pub measured_by : Scope → Sentence → List Measure
measured_by scope (Act (Measured from to)) =
    measures_of (range_of (lookup_in scope) from) (bit_range_of (lookup_in scope) to)
measured_by scope sentence = []

-- one of these numbers is in the range
abbrev pub holds : Range → ℕ → Bool
holds (Single place) number = place == number
holds (Register first size) number = nat_le first number && nat_lt number (first + size)

abbrev pub holds_any : List ℕ → Range → Bool
holds_any numbers range = list_any (holds range) numbers

-- the qubits that were measured, and the bits that their values went to
abbrev pub qubits_of : List Measure → List ℕ
qubits_of measures = map (λ measure. measure.qubit) measures

abbrev pub bits_of : List Measure → List ℕ
bits_of measures = map (λ measure. measure.bit) measures
