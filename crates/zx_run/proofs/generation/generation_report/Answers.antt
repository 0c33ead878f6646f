-- The circuit of the seed is the one that is optimised.
use Rattle.std.proofs.Common.{refl, ap₂, subst, ◌∙◌, ◌++◌}
use Rattle.zx_gates.specs.Circuit.{IsCircuit}
use Rattle.zx_run.proofs.OptimiseLemmas.{IsGenerationReport-written}
use Rattle.zx_run.proofs.generation.generation_report.Goals as goal

pub returns : goal.returns
returns c =
    let read = c.in_ok-read.read in
    let made = c.in_ok-optimised.optimised in
    let is = c.in_ok-optimised.ensures in
    IsGenerationReport-written _ _ _ _ read made.gates made.scalar c.in_ok-read.ensures.qubits c.in_ok-read.ensures.gates
    (subst IsCircuit c.made.view_is c.made.invariant.circuit)
    is.optimises (is.plain refl)
    (c.in_ok-extend_from_slice.ensures.items ∙ ap₂ (λ a b. a ++ b) c.in_ok-output.ensures (c.deref.ensures.value ∙ c.in_ok-lines.ensures))
