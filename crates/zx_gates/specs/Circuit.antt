-- Circuits as lists of gates, the first to act first.
use Rattle.std.specs.Prelude.{◌≢◌, ◌≤◌, ◌<◌, ◌^◌, ℕ, Bool, false, List, length}
use Rattle.std.specs.List.{All, count_by}
use Rattle.zx_model.specs.Phase.{turn, is_odd}
use Rattle.zx_gates.specs.declared.gate.Gate.{Gate}
use Rattle.zx_gates.specs.declared.gate.Gate.TheVariants.{H, Phase, Cz, Cx, Not}

-- a number of qubits, and gates on them
pub record Circuit : Type 0 where
  pub qubits : ℕ
  pub gates : List Gate

-- the most qubits that a circuit may have
abbrev pub most_qubits : ℕ
most_qubits = 1024

-- the gate's qubits are below the number n and differ, and a phase gate turns by some phase other than 0
abbrev pub IsOnQubits : ℕ → Gate → Type 0
IsOnQubits n (H q) = q < n
IsOnQubits n (Phase q k) = (q < n) × (k ≢ 0)
IsOnQubits n (Cz q r) = (q < n) × (r < n) × (q ≢ r)
IsOnQubits n (Cx control target) = (control < n) × (target < n) × (control ≢ target)
IsOnQubits n (Not q) = q < n

-- a phase is below a whole turn, as that of each `Sixteenth` is
abbrev pub IsBelowATurn : Gate → Type 0
IsBelowATurn (Phase q k) = k < turn
IsBelowATurn other = Unit {0}

-- what holds of each gate of a circuit of n qubits
abbrev pub IsGateOn : ℕ → Gate → Type 0
IsGateOn n gate = IsOnQubits n gate × IsBelowATurn gate

pub record IsCircuit (c : Circuit) : Type 0 where
  pub few_qubits : c.qubits ≤ most_qubits
  pub on_qubits : All (IsGateOn c.qubits) c.gates

-- fewer gates than this, so that each has a number of 32 bits
abbrev pub gate_limit : ℕ
gate_limit = 2 ^ 32

abbrev pub circuit_of : ℕ → List Gate → Circuit
circuit_of qubits gates = record { qubits = qubits; gates = gates }

-- a circuit with few enough gates, for each of which there is one of so many places beside it; and where there is a gate,
-- for each qubit there is one of so many links and one of so many rows of marks
pub record HasRoom (c : Circuit) (places links rows : ℕ) : Type 0 where
  pub circuit : IsCircuit c
  pub few_gates : length c.gates < gate_limit
  pub enough : length c.gates ≤ places
  pub linked : 0 < length c.gates → c.qubits ≤ links
  pub marked : 0 < length c.gates → c.qubits ≤ rows

-- whether a gate is a phase gate of an odd phase, as T is: these are the dear gates
abbrev pub is_odd_phase : Gate → Bool
is_odd_phase (Phase q k) = is_odd k
is_odd_phase gate = false

-- how many phase gates of odd phases there are
abbrev pub gate_odd_phases : List Gate → ℕ
gate_odd_phases gates = count_by is_odd_phase gates
