-- The call on places has come to this.
use Rattle.std.proofs.Common.{◌-◌, ◌++◌, ap, ◌∙◌}
use Rattle.qasm_scope.specs.Meaning.{most_calls}
use Rattle.qasm_unroll.specs.Internal.KnownCalls.{places}
use Rattle.qasm_unroll.proofs.KnownLemmas.{expansion-made}
use Rattle.qasm_unroll.proofs.unroll.expansion.Goals as goal

pub returns-in-Ok : goal.returns-in-Ok
returns-in-Ok c = λ numbered unrolls.
    expansion-made numbered c.args.number (most_calls - 64) _ _ _ _ _ _ c.new-unrolled.ensures.gates c.new-unrolled.ensures.angles
    (c.in_ok-extend_from_slice.ensures.items ∙ ap (λ qs. qs ++ places) c.new-unrolled.ensures.qubits) (c.in-Ok.ensures.ok numbered unrolls)
    c.into_gates.ensures c.saturating_sub.ensures
