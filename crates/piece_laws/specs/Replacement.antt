-- By what a list of gates may be replaced.
use Rattle.std.specs.Prelude.{◌≡◌, ◌≤◌, ◌<◌, ◌⊎◌, ℕ, List, length}
use Rattle.std.specs.List.{All, count_by}
use Rattle.zx_model.specs.Proportional.{Proportional}
use Rattle.zx_model.specs.Scalar.{IsScaled}
use Rattle.zx_model.specs.declared.scalar.Scalar.{Scalar}
use Rattle.zx_gates.specs.declared.gate.Gate.{Gate}
use Rattle.zx_gates.specs.Circuit.{IsGateOn, gate_odd_phases}
use Rattle.zx_gates.specs.Counting.{is_two_qubit}
use Rattle.zx_gates.specs.Maps.{amp}

-- how many gates are on two qubits
abbrev pub two_qubit_gates : List Gate → ℕ
two_qubit_gates gates = count_by is_two_qubit gates

-- fewer gates on two qubits; or as many of them, and no more gates in all
abbrev pub IsNoLarger : List Gate → List Gate → Type 0
IsNoLarger new old =
    (two_qubit_gates new < two_qubit_gates old)
    ⊎ ((two_qubit_gates new ≡ two_qubit_gates old) × (length new ≤ length old))

-- a list of gates of n qubits with the same map up to a number other than 0, no more odd phases, and no larger
pub record IsReplacement (n : ℕ) (old new : List Gate) : Type 0 where
  pub on_qubits : All (IsGateOn n) new
  pub map : Proportional n n (amp old) (amp new)
  pub odd : gate_odd_phases new ≤ gate_odd_phases old
  pub size : IsNoLarger new old

-- the map of a list of gates of n qubits is s times that of another
abbrev pub AreScaled : ℕ → List Gate → Scalar → List Gate → Type 0
AreScaled n old s new = IsScaled n n (amp old) s (amp new)
