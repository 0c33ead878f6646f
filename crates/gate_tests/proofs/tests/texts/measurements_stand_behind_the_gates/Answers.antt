use Rattle.std.proofs.Common.{rules, arith, refl, [], ◌∷◌}
use Rattle.std.specs.List.{IsDistinct}
use Rattle.zx_gates.specs.Elementary.{AreOnce}
use Rattle.gate_tests.proofs.tests.texts.measurements_stand_behind_the_gates.Goals as goal

two_once : AreOnce (record { qubit = 1; bit = 0 } ∷ record { qubit = 0; bit = 65535 } ∷ [])
unfolding IsDistinct
two_once = record { qubits = ((refl, tt), (tt, tt)); bits = ((refl, tt), (tt, tt)) }

pub write_text-requires : goal.write_text-requires
write_text-requires g c = record { behind = record { few_bits = omega arith; within = search rules; once = two_once } }
