-- A program without a fault measures each qubit once, and names each bit once.
use Rattle.std.proofs.Common.{◌≡◌, ℕ, true, false, List, [], ◌∷◌, ◌++◌, ◌+◌, None, sym, subst, append_assoc, append-nil}
use Rattle.std.proofs.lemmas.List.{map-append}
use Rattle.zx_gates.specs.declared.elementary.Measure.{Measure}
use Rattle.zx_gates.specs.Elementary.{AreOnce}
use Rattle.zx_model.specs.Bits.{member}
use Rattle.qasm_reader.specs.Syntax.{Measured, Sentence, Act, Placed}
use Rattle.qasm_scope.specs.Applications.{Range, range_of}
use Rattle.qasm_scope.specs.Calls.{call_count}
use Rattle.qasm_scope.specs.Faults.{tests_behind, wrong_behind, wrong_in}
use Rattle.qasm_scope.specs.Measurements.{are_unlike, bit_range_of, bits_of, holds_any, measured_by, measures_of, qubits_of}
use Rattle.qasm_scope.specs.Meaning.{after_statement, events_of, fault_after, first_fault, measures_after, wrong_with}
use Rattle.qasm_scope.specs.Scope.{Scope, lookup_in}
use Rattle.qasm_unroll.proofs.MeantLemmas.{no_cause, none-both, none-first, none-second, passes, version-after, version-from, version-measures}
use Rattle.qasm_unroll.proofs.MemberLemmas.{Once, once-append, once-distinct}
use Rattle.qasm_unroll.proofs.RangeLemmas.{measured-bits, measured-qubits, places, places-apart, places-once}

abbrev Distinct : List Measure → Type 0
Distinct measures = Once (qubits_of measures) × Once (bits_of measures)

-- more of them, whose numbers are all of a range that has none of the numbers before
more-once : (t : Range) (n : ℕ) (before more : List ℕ) → Once before → more ≡ places t n → Once (places t n)
    → ((number : ℕ) → member number (places t n) ≡ true → member number before ≡ false) → Once (before ++ more)
more-once t n before more h same once other = subst (λ ns. Once (before ++ ns)) (sym same) (once-append before (places t n) h once other)

measured-once : (from to : Range) (measured : List Measure) → are_unlike from to ≡ false → holds_any (qubits_of measured) from ≡ false → holds_any (bits_of measured) to ≡ false
    → Distinct measured → Distinct (measured ++ measures_of from to)
measured-once from to measured like qubits bits h = (
  subst Once (sym (map-append (λ measure. measure.qubit) measured (measures_of from to)))
      (more-once from _ (qubits_of measured) _ h.0 (measured-qubits from to) (places-once from) (places-apart from (qubits_of measured) qubits)),
  subst Once (sym (map-append (λ measure. measure.bit) measured (measures_of from to)))
      (more-once to _ (bits_of measured) _ h.1 (measured-bits from to like) (places-once to) (places-apart to (bits_of measured) bits)),
)

statement-once : (scope : Scope) (measured : List Measure) (sentence : Sentence) → wrong_in scope sentence ≡ None → wrong_behind scope measured sentence ≡ None
    → Distinct measured → Distinct (measured ++ measured_by scope sentence)
statement-once scope measured (Act (Measured from to)) right behind h =
    let tests = no_cause (tests_behind scope measured (Act (Measured from to))) behind in
    measured-once (range_of (lookup_in scope) from) (bit_range_of (lookup_in scope) to) measured (passes scope (Act (Measured from to)) right).1.1.0 tests.0 tests.1.0 h
statement-once scope measured _ right behind h = subst Distinct (sym (append-nil measured)) h

once-after : (most : ℕ) (scope : Scope) (measured : List Measure) (calls : ℕ) (statements : List Placed) → fault_after most scope measured calls statements ≡ None
    → Distinct measured → Distinct (measured ++ measures_after scope statements)
once-after most scope measured calls [] h once = subst Distinct (sym (append-nil measured)) once
once-after most scope measured calls (s ∷ statements) h once =
    let both = none-both (wrong_with most scope measured calls s.sentence) s.place _ h in
    let right : wrong_in scope s.sentence ≡ None = none-first _ _ both.0 in
    let behind : wrong_behind scope measured s.sentence ≡ None = none-first _ _ (none-second (wrong_in scope s.sentence) _ both.0) in
    subst Distinct (append_assoc measured (measured_by scope s.sentence) (measures_after (after_statement scope s.sentence) statements))
    (once-after most (after_statement scope s.sentence) (measured ++ measured_by scope s.sentence) (calls + call_count (events_of scope s.sentence)) statements both.1
    (statement-once scope measured s.sentence right behind once))

first-once : (most : ℕ) (program : List Placed) → first_fault most program ≡ None → Distinct (measures_after [] program)
unfolding first_fault
first-once most [] h = absurd (cc)
first-once most (s ∷ statements) h =
    let both = version-from _ (fault_after most [] [] 0 statements) _ h in
    let none : measured_by [] s.sentence ≡ [] = version-measures [] s.sentence both.0 in
    subst (λ ms. Distinct (ms ++ measures_after (after_statement [] s.sentence) statements)) (sym none)
    (subst (λ scope. Distinct (measures_after scope statements)) (version-after [] s.sentence both.0) (once-after most [] [] 0 statements both.1 (tt, tt)))

pub faultless-once : (most : ℕ) (program : List Placed) → first_fault most program ≡ None → AreOnce (measures_after [] program)
faultless-once most program h =
    let once = first-once most program h in
    record { qubits = once-distinct _ once.0; bits = once-distinct _ once.1 }
