-- Measurements by what names are kept as, and what is kept of them: a private matter of the program.
use Rattle.std.specs.Prelude.{◌≡◌, ℕ, ◌-◌, ◌^◌, ◌==◌, ◌||◌, if◌then◌else◌, List, ◌++◌, map, min, Option, None, Some}
use Rattle.std.specs.List.{range_with_len}
use Rattle.std.specs.Option.{option_or}
use Rattle.zx_model.specs.Bits.{member}
use Rattle.zx_gates.specs.declared.elementary.Measure.{Measure}
use Rattle.qasm_reader.specs.Syntax.{Operand, Sentence, Act, Measured as MeasuredAs}
use Rattle.qasm_scope.specs.Applications.{Range, element_at, register_of}
use Rattle.qasm_scope.specs.declared.causes.Cause.{Cause}
use Rattle.qasm_scope.specs.declared.causes.Cause.TheVariants as cause
use Rattle.qasm_scope.specs.Faults.{is_no_register, is_past, wrong_behind, wrong_in}
use Rattle.qasm_scope.specs.Meaning.{most_calls, wrong_with}
use Rattle.qasm_scope.specs.Measurements.{are_unlike, bits_of, count_in, holds_any, qubits_of, bit_register_of}
use Rattle.qasm_scope.specs.Scope.{Scope, Lookup}
use Rattle.qasm_unroll.specs.declared.measured.Measured.{Measured}
use Rattle.qasm_unroll.specs.declared.unroll.Unrolled.{Unrolled}
use Rattle.qasm_unroll.specs.Internal.Spans.{cut_element_at, span_in, span_of}

-- the sets are those of the qubits and the bits of the list
pub record Remembers (measured : Measured) : Type 0 where
  pub qubits : (number : ℕ) → member number measured.qubits.numbers ≡ member number (qubits_of measured.list)
  pub bits : (number : ℕ) → member number measured.bits.numbers ≡ member number (bits_of measured.list)

-- these were measured in between
pub record Adds (before after : Measured) (more : List Measure) : Type 0 where
  pub same : after.list ≡ before.list ++ more
  pub remembers : Remembers before → Remembers after

-- the later set has the number and what was in the set before
abbrev pub Inserts : List ℕ → ℕ → List ℕ → Type 0
Inserts before number after = (other : ℕ) → member other after ≡ (member other before || (other == number))

-- numbers are cut off at the largest ones that fit
abbrev pub cut_measure : Range → Range → ℕ → Measure
cut_measure from to index =
    record { qubit = cut_element_at index from; bit = min (element_at index to) (2 ^ 32 - 1) }

abbrev pub cut_measures : Range → Range → List Measure
cut_measures from to = map (cut_measure from to) (range_with_len 0 (count_in from))

-- the first cause of a measurement by what its arguments name
abbrev pub named_cause : Lookup → Operand → Operand → Option Cause
named_cause names from to =
    if is_no_register (register_of names from) || is_no_register (bit_register_of names to) then Some cause.Unknown else
    if is_past (register_of names from) from.index || is_past (bit_register_of names to) to.index then Some cause.Index
    else None

-- nothing is wrong with what they name, and this is what they stand for
pub record AreFoundSpans (names : Lookup) (from to : Operand) (qubits bits : Range) : Type 0 where
  pub named : named_cause names from to ≡ None
  pub same_qubits : qubits ≡ span_of names from
  pub same_bits : bits ≡ span_in (bit_register_of names to) to.index

-- the first cause, behind others, of one whose arguments stand for these qubits and bits
abbrev pub found_cause : List Measure → Range → Range → Option Cause
found_cause measured qubits bits =
    if are_unlike qubits bits then Some cause.Sizes else
    if holds_any (qubits_of measured) qubits then Some cause.AfterMeasure else
    if holds_any (bits_of measured) bits then Some cause.BitTwice else None

-- what is wrong with a measurement behind others
abbrev pub wrong_measure : Scope → List Measure → Operand → Operand → Option Cause
wrong_measure scope measured from to =
    option_or (wrong_in scope (Act (MeasuredAs from to))) (wrong_behind scope measured (Act (MeasuredAs from to)))

-- what is wrong with a statement behind what was measured and called
abbrev pub wrong_next : Scope → Measured → Unrolled → Sentence → Option Cause
wrong_next scope measured unrolled sentence = wrong_with most_calls scope measured.list unrolled.calls sentence
