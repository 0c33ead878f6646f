-- Circuits of the two gates that are built into OpenQASM 2.0, and measurements at their ends.
use Rattle.std.specs.Prelude.{◌≢◌, ◌≤◌, ◌<◌, ◌==◌, ◌+◌, ◌%◌, ◌^◌, ℕ, List, length, map, if◌then◌else◌}
use Rattle.std.specs.List.{All, IsDistinct, sum_by}
use Rattle.zx_model.specs.Phase.{turn, half_turn, sum_of_phases, opposite_phase, is_odd}
use Rattle.zx_model.specs.Bits.{one_if}
use Rattle.zx_gates.specs.Circuit.{most_qubits}
use Rattle.zx_gates.specs.declared.elementary.Elementary.{Elementary}
use Rattle.zx_gates.specs.declared.elementary.ElementaryGate.{ElementaryGate}
use Rattle.zx_gates.specs.declared.elementary.ElementaryGate.TheVariants.{U, Cx}
use Rattle.zx_gates.specs.declared.elementary.Measure.{Measure}

-- the gate's qubits are below the number n and differ
abbrev pub IsElementaryGateOn : ℕ → ElementaryGate → Type 0
IsElementaryGateOn n (U q theta phi lambda) = q < n
IsElementaryGateOn n (Cx control target) = (control < n) × (target < n) × (control ≢ target)

-- fewer gates than this
abbrev pub elementary_bound : ℕ
elementary_bound = 2 ^ 40

-- the most bits that a circuit may have
abbrev pub most_bits : ℕ
most_bits = 65536

-- a measurement of one of so many qubits into one of so many bits
pub record IsMeasureOn (qubits bits : ℕ) (measure : Measure) : Type 0 where
  pub a_qubit : measure.qubit < qubits
  pub a_bit : measure.bit < bits

-- no qubit is measured twice, and no bit is written twice
pub record AreOnce (measures : List Measure) : Type 0 where
  pub qubits : IsDistinct ◌==◌ (map (λ measure. measure.qubit) measures)
  pub bits : IsDistinct ◌==◌ (map (λ measure. measure.bit) measures)

pub record IsElementary (circuit : Elementary) : Type 0 where
  pub few_qubits : circuit.qubits ≤ most_qubits
  pub few_gates : length circuit.gates < elementary_bound
  pub on_qubits : All (IsElementaryGateOn circuit.qubits) circuit.gates
  pub few_bits : circuit.bits ≤ most_bits
  pub measures_within : All (IsMeasureOn circuit.qubits circuit.bits) circuit.measured
  pub measured_once : AreOnce circuit.measured

-- the first phase without the second
abbrev pub difference_of_phases : ℕ → ℕ → ℕ
difference_of_phases j k = sum_of_phases j (opposite_phase (k % turn))

-- 1 for an odd phase, and 0 for any other
abbrev pub odd_of : ℕ → ℕ
odd_of k = one_if (is_odd k)

-- How many phase gates of odd phases a gate costs. Where theta is 0, U is a phase gate of phi + lambda; where theta is
-- a half turn, it is one of lambda - phi, and a NOT.
abbrev pub odd_elementary : ElementaryGate → ℕ
odd_elementary (U q theta phi lambda) =
    if theta == 0 then odd_of (sum_of_phases phi lambda) else
    if theta == half_turn then odd_of (difference_of_phases lambda phi) else
    odd_of theta + odd_of phi + odd_of lambda
odd_elementary (Cx control target) = 0

-- how many the gates cost together: the t of the bounds on what is written
abbrev pub elementary_odd_phases : List ElementaryGate → ℕ
elementary_odd_phases gates = sum_by odd_elementary gates
