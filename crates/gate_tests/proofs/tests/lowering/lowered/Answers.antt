use Rattle.std.proofs.Common.{arith, sym, subst, []}
use Rattle.std.specs.List.{All, IsDistinct}
use Rattle.zx_gates.specs.Elementary.{AreOnce, IsMeasureOn}
use Rattle.gate_tests.proofs.tests.lowering.lowered.Goals as goal

none_once : AreOnce []
unfolding IsDistinct
none_once = record { qubits = tt; bits = tt }

pub lower-requires : goal.lower-requires
lower-requires c =
    record {
      few_qubits = c.requires.few_qubits;
      few_gates = c.requires.few_gates;
      on_qubits = c.requires.on_qubits;
      few_bits = omega arith;
      measures_within = subst (All (IsMeasureOn c.args.qubits 0)) (sym c.new.ensures) (λ k d lt. absurd (omega (arith, lt)));
      measured_once = subst AreOnce (sym c.new.ensures) none_once;
    }
