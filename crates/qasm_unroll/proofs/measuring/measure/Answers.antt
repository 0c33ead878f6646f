use Rattle.std.proofs.Common.{◌≡◌, Some, sym, ap, ◌∙◌}
use Rattle.qasm_reader.specs.Views.{operand}
use Rattle.qasm_unroll.proofs.MeasuringLemmas.{adds-found, wrong-found, wrong-named}
use Rattle.qasm_unroll.proofs.measuring.measure.Goals as goal

pub returns-in-Err-clause-err : goal.returns-in-Err-clause-err
returns-in-Err-clause-err c = λ cause scope e r m.
    let same : c.in-Err.cause ≡ cause = cc in
    wrong-named c.args.names.now.symbols scope c.args.measured.now.list (operand c.args.from.now) (operand c.args.to.now) cause r.same_symbols (c.in-Err.ensures.err ∙ ap Some same)

pub returns-in-Some-clause-err : goal.returns-in-Some-clause-err
returns-in-Some-clause-err c = λ cause scope e r m.
    let same : c.in-Some.cause ≡ cause = cc in
    wrong-found c.args.names.now.symbols scope c.args.measured.now.list (operand c.args.from.now) (operand c.args.to.now) _ _ r.same_symbols r.sound c.in-Ok.ensures.ok
    ∙ sym (c.found_cause.ensures m) ∙ c.in-Some.is ∙ ap Some same

pub returns-clause-ok : goal.returns-clause-ok
returns-clause-ok c = λ scope r m.
    wrong-found c.args.names.now.symbols scope c.args.measured.now.list (operand c.args.from.now) (operand c.args.to.now) _ _ r.same_symbols r.sound c.in-Ok.ensures.ok
    ∙ sym (c.found_cause.ensures m) ∙ c.in_default.is

pub returns-clause-adds : goal.returns-clause-adds
returns-clause-adds c = λ scope r.
    adds-found c.args.names.now.symbols scope _ _ (operand c.args.from.now) (operand c.args.to.now) _ _ r.same_symbols r.sound c.in-Ok.ensures.ok c.in_ok-add.ensures
