-- Kinds of gates, to be counted.
use Rattle.std.specs.Prelude.{Bool, true, false, ◌||◌}
use Rattle.zx_gates.specs.declared.gate.Gate.{Gate}
use Rattle.zx_gates.specs.declared.gate.Gate.TheVariants.{H, Phase, Cz, Cx, Not}

abbrev pub is_h : Gate → Bool
is_h (H q) = true
is_h other = false

abbrev pub is_phase : Gate → Bool
is_phase (Phase q k) = true
is_phase other = false

abbrev pub is_cz : Gate → Bool
is_cz (Cz q r) = true
is_cz other = false

abbrev pub is_cx : Gate → Bool
is_cx (Cx control target) = true
is_cx other = false

abbrev pub is_not : Gate → Bool
is_not (Not q) = true
is_not other = false

-- whether a gate acts on two qubits
abbrev pub is_two_qubit : Gate → Bool
is_two_qubit gate = is_cz gate || is_cx gate
