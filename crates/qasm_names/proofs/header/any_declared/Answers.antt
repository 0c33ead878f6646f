use Rattle.std.proofs.Common.{sym, ◌∙◌}
use Rattle.std.specs.Option.{is_some}
use Rattle.qasm_names.specs.Kept.{found}
use Rattle.qasm_names.proofs.PlaceLemmas.{any-here, any-next}
use Rattle.qasm_names.proofs.header.any_declared.Goals as goal

pub returns-then-is_declared : goal.returns-then-is_declared
returns-then-is_declared c = sym (
    c.loop-gate.invariant
    ∙ any-here (λ name. is_some (found name c.args.names.now.symbols)) (λ gate. gate.name.now) c.args.gates.now c.loop-gate.gate-index _ c.loop-gate-test.true
    (sym c.if-is_declared.ensures))

pub loop-gate-preserved : goal.loop-gate-preserved
loop-gate-preserved c =
    c.loop-gate.invariant
    ∙ any-next (λ name. is_some (found name c.args.names.now.symbols)) (λ gate. gate.name.now) c.args.gates.now c.loop-gate.gate-index _ c.loop-gate-test.true
    (sym c.if-is_declared.ensures)
