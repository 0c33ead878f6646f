use Rattle.std.proofs.Common.{arith, []}
use Rattle.std.specs.List.{IsDistinct}
use Rattle.zx_gates.specs.Elementary.{AreOnce}
use Rattle.gate_tests.proofs.tests.texts.is_written.Goals as goal

none_once : AreOnce []
unfolding IsDistinct
none_once = record { qubits = tt; bits = tt }

pub write_text-requires : goal.write_text-requires
write_text-requires c = record { behind = record { few_bits = omega arith; within = λ k d lt. absurd (omega (arith, lt)); once = none_once } }
