-- Measurements behind a circuit.
use Rattle.std.specs.Prelude.{◌≤◌, ℕ, List}
use Rattle.std.specs.List.{All}
use Rattle.zx_gates.specs.Circuit.{Circuit}
use Rattle.zx_gates.specs.Elementary.{AreOnce, IsMeasureOn, most_bits}
use Rattle.zx_gates.specs.declared.elementary.Measure.{Measure}

-- these may be measurements of the circuit's qubits into so many bits
pub record AreBehind (circuit : Circuit) (bits : ℕ) (measured : List Measure) : Type 0 where
  pub few_bits : bits ≤ most_bits
  pub within : All (IsMeasureOn circuit.qubits bits) measured
  pub once : AreOnce measured
