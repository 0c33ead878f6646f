use Rattle.std.proofs.Common.{◌≡◌, true, false, if◌then◌else◌, map, Some, sym, ap, ◌∙◌, rules}
use Rattle.qasm_reader.specs.Syntax.{Barrier}
use Rattle.qasm_reader.specs.Views.{operand}
use Rattle.qasm_scope.specs.declared.causes.Cause.TheVariants as cause
use Rattle.qasm_names.specs.Kept.{Represents}
use Rattle.qasm_scope.specs.Faults.{wrong_in}
use Rattle.qasm_scope.specs.Scope.{Scope}
use Rattle.qasm_unroll.proofs.SpanLemmas.{wrong_in-barrier, clear-barrier}
use Rattle.qasm_unroll.proofs.applications.barrier.Goals as goal
use Rattle.qasm_unroll.proofs.applications.barrier.Goals.{After-any_no_register}

pub returns-then-not-any_missing-clause-ok : goal.returns-then-not-any_missing-clause-ok
returns-then-not-any_missing-clause-ok c = λ scope r.
    let clear : c.any_missing.result ≡ false = search rules in
    clear-barrier c.args.names.now.symbols scope (map operand c.args.arguments.now) r.same_symbols (sym c.any_missing.ensures ∙ clear)

-- what is wrong with it
wrong : (c : After-any_no_register) (scope : Scope) → Represents c.args.names.now scope
    → wrong_in scope (Barrier (map operand c.args.arguments.now)) ≡ Some (if c.any_no_register.result then cause.Unknown else cause.Index)
wrong c scope r =
    let missing : c.any_missing.result ≡ true = search rules in
    wrong_in-barrier c.args.names.now.symbols scope (map operand c.args.arguments.now) r.same_symbols (sym c.any_missing.ensures ∙ missing)
    ∙ ap (λ b. Some (if b then cause.Unknown else cause.Index)) (sym c.any_no_register.ensures)

pub returns-then-any_no_register-clause-err : goal.returns-then-any_no_register-clause-err
returns-then-any_no_register-clause-err c = λ k scope e r.
    let same : cause.Unknown ≡ k = cc in
    rw c.if-any_no_register.true at (wrong (goal.at.returns-then-any_no_register-clause-err c).After-any_no_register scope r) ∙ ap Some same

pub returns-else-any_no_register-clause-err : goal.returns-else-any_no_register-clause-err
returns-else-any_no_register-clause-err c = λ k scope e r.
    let same : cause.Index ≡ k = cc in
    rw c.if-any_no_register.false at (wrong (goal.at.returns-else-any_no_register-clause-err c).After-any_no_register scope r) ∙ ap Some same
