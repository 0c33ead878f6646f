-- What the answer of a circuit says of the program that it took in.
use Rattle.std.proofs.Common.{◌≡◌, ◌⊎◌, inl, inr, Option, ℕ, ◌≤◌, length, map, take, List, None, Some, Result, Ok, Err, refl, sym, ap, subst, ◌∙◌, arith}
use Rattle.std.specs.Prelude.{IfOk, OnOk}
use Rattle.qasm_reader.specs.declared.program.ProgramElement.{ProgramElement}
use Rattle.qasm_reader.specs.Views.{statement_of}
use Rattle.qasm_unroll.specs.declared.circuit.Circuit.{Circuit}
use Rattle.zx_gates.specs.declared.elementary.Elementary.{Elementary}
use Rattle.zx_gates.specs.Elementary.{IsElementary}
use Rattle.qasm_reader.specs.Syntax.{Placed}
use Rattle.qasm_scope.specs.declared.causes.Cause.{Cause}
use Rattle.qasm_unroll.specs.declared.error.InlineError.{InlineError}
use Rattle.qasm_unroll.specs.declared.error.InlineError.TheVariants.{Fault, NoMemory}
use Rattle.qasm_unroll.specs.Circuits.{HasTaken, IsCircuitAnswer}
use Rattle.qasm_scope.specs.Meaning.{Means, first_fault, most_calls}
use Rattle.qasm_inline.proofs.Elementary.{meant-few, meant-few-bits, meant-on, meant-once, meant-within}
use Rattle.qasm_inline.proofs.CountLemmas.{faultless-few_gates}
use Rattle.qasm_unroll.proofs.CircuitLemmas.{take-over}

pub elementary : (program : List Placed) (circuit : Elementary) → IsCircuitAnswer program (Ok circuit) → IsElementary circuit
elementary program circuit h =
    let m : Means program circuit.qubits circuit.gates circuit.bits circuit.measured = record { most = most_calls; faultless = h.0; as_many_qubits = h.1; same_gates = h.2; as_many_bits = h.3; same_measures = h.4 } in
    record {
      few_qubits = meant-few program circuit.qubits circuit.gates circuit.bits circuit.measured m;
      few_gates = let few : length circuit.gates ≤ most_calls = subst (λ gates. length gates ≤ most_calls) (sym h.2) (faultless-few_gates most_calls program h.0) in omega arith;
      on_qubits = meant-on program circuit.qubits circuit.gates circuit.bits circuit.measured m;
      few_bits = meant-few-bits program circuit.qubits circuit.gates circuit.bits circuit.measured m;
      measures_within = meant-within program circuit.qubits circuit.gates circuit.bits circuit.measured m;
      measured_once = meant-once program circuit.qubits circuit.gates circuit.bits circuit.measured m;
    }

pub valid-from : (program : List Placed) (result : Result Elementary InlineError) → IsCircuitAnswer program result → IfOk result (λ circuit. IsElementary circuit)
valid-from program (Ok circuit) h = elementary program circuit h
valid-from program _ h = tt

pub faultless-from : (program : List Placed) (result : Result Elementary InlineError) → IsCircuitAnswer program result → OnOk result (first_fault most_calls program ≡ None)
faultless-from program (Ok circuit) h = h.0
faultless-from program (Err error) h = tt

pub means : (program : List Placed) (circuit : Elementary) → IsCircuitAnswer program (Ok circuit) → Means program circuit.qubits circuit.gates circuit.bits circuit.measured
means program circuit h = record { most = most_calls; faultless = h.0; as_many_qubits = h.1; same_gates = h.2; as_many_bits = h.3; same_measures = h.4 }

pub means-from : (program : List Placed) (result : Result Elementary InlineError) → IsCircuitAnswer program result → IfOk result (λ circuit. Means program circuit.qubits circuit.gates circuit.bits circuit.measured)
means-from program (Ok circuit) h = means program circuit h
means-from program (Err error) h = tt

pub fault-from : (program : List Placed) (result : Result Elementary InlineError) → IsCircuitAnswer program result → (what : Cause) (at : ℕ) → result ≡ Err (Fault what at)
    → first_fault most_calls program ≡ Some (what, at)
fault-from program result h what at e = subst (IsCircuitAnswer program) e h

pub refused-from : (program : List Placed) (result : Result Elementary InlineError) → IsCircuitAnswer program result → (what : Cause) (at : ℕ)
    → first_fault most_calls program ≡ Some (what, at) → (result ≡ Err NoMemory) ⊎ (result ≡ Err (Fault what at))
refused-from program (Ok circuit) h what at e = absurd (let k : ◌≡◌ {A = Option (Cause × ℕ)} None (Some (what, at)) = sym h.0 ∙ e in cc)
refused-from program (Err (Fault this place)) h what at e =
    let k : ◌≡◌ {A = Option (Cause × ℕ)} (Some (this, place)) (Some (what, at)) = sym h ∙ e in
    let both : ◌≡◌ {A = Cause × ℕ} (this, place) (what, at) = cc in
    inr (ap (λ p. Err (Fault p.0 p.1)) both)
refused-from program (Err NoMemory) h what at e = inl refl

pub all-taken : (circuit : Circuit) (items all : List ProgramElement) (i : ℕ) → items ≡ all → length items ≤ i → HasTaken circuit (map statement_of (take i all)) → HasTaken circuit (map statement_of all)
all-taken circuit items all i same over taken =
    subst (λ es. HasTaken circuit (map statement_of es)) (take-over all i (subst (λ (es : List ProgramElement). length es ≤ i) same over)) taken
