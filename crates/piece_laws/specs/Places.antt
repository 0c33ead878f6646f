-- Gates of a small circuit on the qubits of a larger one.
use Rattle.std.specs.Prelude.{◌<◌, ◌==◌, ℕ, List, map, get_or}
use Rattle.std.specs.List.{All, IsDistinct}
use Rattle.zx_gates.specs.declared.gate.Gate.{Gate}
use Rattle.zx_gates.specs.declared.gate.Gate.TheVariants.{H, Phase, Cz, Cx, Not}

-- different qubits of n: where each qubit of a smaller circuit stands
pub record ArePlaces (n : ℕ) (places : List ℕ) : Type 0 where
  pub distinct : IsDistinct ◌==◌ places
  pub below : All (λ p. p < n) places

abbrev pub place : List ℕ → ℕ → ℕ
place places q = get_or places q 0

abbrev pub placed_gate : List ℕ → Gate → Gate
placed_gate places (H q) = H (place places q)
placed_gate places (Phase q k) = Phase (place places q) k
placed_gate places (Cz q r) = Cz (place places q) (place places r)
placed_gate places (Cx control target) = Cx (place places control) (place places target)
placed_gate places (Not q) = Not (place places q)

abbrev pub placed : List ℕ → List Gate → List Gate
placed places gates = map (placed_gate places) gates
