use Rattle.std.proofs.Common.{◌≡◌, Some, None, ap, ◌∙◌}
use Rattle.std.specs.Option.{option_or}
use Rattle.std.proofs.lemmas.Result.{on_ok_weaker}
use Rattle.qasm_reader.specs.Syntax.{Act}
use Rattle.qasm_reader.specs.Views.{action}
use Rattle.qasm_scope.specs.Meaning.{most_calls, wrong_with}
use Rattle.qasm_unroll.proofs.StatementLemmas.{measured-wrong, wrong-reset}
use Rattle.qasm_scope.specs.declared.causes.Cause.TheVariants.{Unsupported}
use Rattle.qasm_unroll.proofs.statements.operate.Goals as goal

pub returns-in-Apply-clause-err : goal.returns-in-Apply-clause-err
returns-in-Apply-clause-err c = λ cause scope e r m k.
    ap (λ x. wrong_with most_calls scope c.args.measured.now.list c.args.unrolled.now.calls (Act (action x))) c.in-Apply.is
    ∙ c.apply.ensures.err cause scope e r m k

pub returns-in-Measure-clause-err : goal.returns-in-Measure-clause-err
returns-in-Measure-clause-err c = λ cause scope e r m k.
    ap (λ x. wrong_with most_calls scope c.args.measured.now.list c.args.unrolled.now.calls (Act (action x))) c.in-Measure.is
    ∙ measured-wrong scope c.args.measured.now.list c.args.unrolled.now.calls _ _ ∙ c.measure.ensures.err cause scope e r m

pub returns-in-Reset-clause-err : goal.returns-in-Reset-clause-err
returns-in-Reset-clause-err c = λ cause scope e r m k.
    let same : Unsupported ≡ cause = cc in
    ap (λ x. wrong_with most_calls scope c.args.measured.now.list c.args.unrolled.now.calls (Act (action x))) c.in-Reset.is
    ∙ ap (λ o. option_or o None) (wrong-reset scope _ ∙ ap Some same)

pub returns-in-Measure-clause-knows : goal.returns-in-Measure-clause-knows
returns-in-Measure-clause-knows c = on_ok_weaker c.measure.result (λ h scope r k. k) c.measure.ensures.ok
