-- The circuit that a program means is elementary.
use Rattle.std.proofs.Common.{◌≤◌, ℕ, List, [], sym, subst}
use Rattle.std.specs.List.{All}
use Rattle.zx_gates.specs.declared.elementary.ElementaryGate.{ElementaryGate}
use Rattle.zx_gates.specs.declared.elementary.Measure.{Measure}
use Rattle.zx_gates.specs.Circuit.{most_qubits}
use Rattle.zx_gates.specs.Elementary.{AreOnce, IsElementaryGateOn, IsMeasureOn, most_bits}
use Rattle.qasm_reader.specs.Syntax.{Placed}
use Rattle.qasm_scope.specs.Meaning.{Means, scope_after}
use Rattle.qasm_scope.specs.Scope.{bit_count, qubit_count}
use Rattle.qasm_unroll.proofs.MeantLemmas.{faultless-few, faultless-on, faultless-within}
use Rattle.qasm_inline.proofs.OnceLemmas.{faultless-once}

pub meant-few : (program : List Placed) (qubits : ℕ) (gates : List ElementaryGate) (bits : ℕ) (measured : List Measure) → Means program qubits gates bits measured → qubits ≤ most_qubits
meant-few program qubits gates bits measured m = subst (λ n. n ≤ most_qubits) (sym m.as_many_qubits) (faultless-few m.most program m.faultless).0

pub meant-few-bits : (program : List Placed) (qubits : ℕ) (gates : List ElementaryGate) (bits : ℕ) (measured : List Measure) → Means program qubits gates bits measured → bits ≤ most_bits
meant-few-bits program qubits gates bits measured m = subst (λ n. n ≤ most_bits) (sym m.as_many_bits) (faultless-few m.most program m.faultless).1

pub meant-on : (program : List Placed) (qubits : ℕ) (gates : List ElementaryGate) (bits : ℕ) (measured : List Measure) → Means program qubits gates bits measured → All (IsElementaryGateOn qubits) gates
meant-on program qubits gates bits measured m =
    subst (λ n. All (IsElementaryGateOn n) gates) (sym m.as_many_qubits)
    (subst (All (IsElementaryGateOn (qubit_count (scope_after [] program)))) (sym m.same_gates) (faultless-on m.most program m.faultless))

pub meant-within : (program : List Placed) (qubits : ℕ) (gates : List ElementaryGate) (bits : ℕ) (measured : List Measure) → Means program qubits gates bits measured → All (IsMeasureOn qubits bits) measured
meant-within program qubits gates bits measured m =
    subst (λ n. All (IsMeasureOn n bits) measured) (sym m.as_many_qubits)
    (subst (λ n. All (IsMeasureOn (qubit_count (scope_after [] program)) n) measured) (sym m.as_many_bits)
    (subst (All (IsMeasureOn (qubit_count (scope_after [] program)) (bit_count (scope_after [] program)))) (sym m.same_measures) (faultless-within m.most program m.faultless)))

pub meant-once : (program : List Placed) (qubits : ℕ) (gates : List ElementaryGate) (bits : ℕ) (measured : List Measure) → Means program qubits gates bits measured → AreOnce measured
meant-once program qubits gates bits measured m = subst AreOnce (sym m.same_measures) (faultless-once m.most program m.faultless)
