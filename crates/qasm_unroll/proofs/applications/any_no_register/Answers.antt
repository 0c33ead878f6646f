use Rattle.std.proofs.Common.{◌≡◌, true, false, not, sym, ap, ◌∙◌, rules}
use Rattle.std.specs.Option.{is_some}
use Rattle.qasm_reader.specs.Views.{operand}
use Rattle.qasm_names.proofs.PlaceLemmas.{any-here, any-next}
use Rattle.qasm_unroll.proofs.applications.any_no_register.Goals as goal
use Rattle.qasm_scope.specs.Faults.{has_no_register}
use Rattle.qasm_names.specs.Checks.{lookup_by}

pub returns-then-is_none : goal.returns-then-is_none
returns-then-is_none c =
    let none : not (is_some c.register.result) ≡ true = search rules in
    sym (c.loop-argument.invariant ∙ any-here (has_no_register (lookup_by c.args.names.now.symbols)) operand c.args.arguments.now c.loop-argument.argument-index _ c.loop-argument-test.true
    (ap (λ r. not (is_some r)) (sym c.register.ensures) ∙ none))

pub loop-argument-preserved : goal.loop-argument-preserved
loop-argument-preserved c =
    let some : not (is_some c.register.result) ≡ false = search rules in
    c.loop-argument.invariant ∙ any-next (has_no_register (lookup_by c.args.names.now.symbols)) operand c.args.arguments.now c.loop-argument.argument-index _ c.loop-argument-test.true
    (ap (λ r. not (is_some r)) (sym c.register.ensures) ∙ some)
