-- What pairs and triples become.
use Rattle.std.specs.Prelude.{ℕ, List, []}
use Rattle.zx_model.specs.Bits.{one_if}
use Rattle.zx_model.specs.Phase.{half_turn, sum_of_phases}
use Rattle.zx_gates.specs.declared.gate.Gate.{Gate}
use Rattle.zx_gates.specs.declared.gate.Gate.TheVariants.{Phase, Not}
use Rattle.zx_gates.specs.Counting.{is_h}
use Rattle.zx_gates.specs.Lowering.{phase_gates}

-- what a pair becomes: a phase gate of the sum of two phases, if that isn't 0, or nothing
abbrev pub merged : Gate → Gate → List Gate
merged (Phase q j) (Phase r k) = phase_gates r (sum_of_phases j k)
merged first second = []

-- the power of two that goes with it, where the pair begins with this gate
abbrev pub doublings : Gate → ℕ
doublings gate = one_if (is_h gate)

-- what a half turn or NOT between two H is with them
abbrev pub conjugated : Gate → Gate
conjugated (Phase q k) = Not q
conjugated (Not q) = Phase q half_turn
conjugated other = other
