use Rattle.std.proofs.Common.{◌≡◌, map, Some, None, sym, ap, ◌∙◌}
use Rattle.std.specs.Option.{option_or}
use Rattle.std.proofs.lemmas.Result.{on_ok_weaker}
use Rattle.qasm_reader.specs.Views.{sentence, operand}
use Rattle.qasm_reader.specs.Syntax.{Barrier}
use Rattle.qasm_scope.specs.Faults.{wrong_in}
use Rattle.qasm_scope.specs.Meaning.{most_calls, wrong_with}
use Rattle.qasm_unroll.proofs.KnownLemmas.{known-after}
use Rattle.qasm_unroll.proofs.StatementLemmas.{wrong-version, wrong-opaque, wrong-if}
use Rattle.qasm_scope.specs.declared.causes.Cause.TheVariants.{SecondVersion, Unsupported}
use Rattle.qasm_unroll.proofs.statements.read_statement.Goals as goal

pub returns-in-Version-clause-err : goal.returns-in-Version-clause-err
returns-in-Version-clause-err c = λ cause scope e r m k.
    let same : SecondVersion ≡ cause = cc in
    ap (λ x. wrong_with most_calls scope c.args.measured.now.list c.args.unrolled.now.calls (sentence x)) c.in-Version.is
    ∙ ap (λ o. option_or o None) (wrong-version scope _ ∙ ap Some same)

pub returns-in-Include-clause-err : goal.returns-in-Include-clause-err
returns-in-Include-clause-err c = λ cause scope e r m k.
    ap (λ x. wrong_with most_calls scope c.args.measured.now.list c.args.unrolled.now.calls (sentence x)) c.in-Include.is
    ∙ ap (λ o. option_or o None) (c.include.ensures.err cause scope e r)

pub returns-in-QubitRegister-clause-err : goal.returns-in-QubitRegister-clause-err
returns-in-QubitRegister-clause-err c = λ cause scope e r m k.
    ap (λ x. wrong_with most_calls scope c.args.measured.now.list c.args.unrolled.now.calls (sentence x)) c.in-QubitRegister.is
    ∙ ap (λ o. option_or o None) (c.declare_qubits.ensures.err cause scope e r)

pub returns-in-BitRegister-clause-err : goal.returns-in-BitRegister-clause-err
returns-in-BitRegister-clause-err c = λ cause scope e r m k.
    ap (λ x. wrong_with most_calls scope c.args.measured.now.list c.args.unrolled.now.calls (sentence x)) c.in-BitRegister.is
    ∙ ap (λ o. option_or o None) (c.declare_bits.ensures.err cause scope e r)

pub returns-in-Opaque-clause-err : goal.returns-in-Opaque-clause-err
returns-in-Opaque-clause-err c = λ cause scope e r m k.
    let same : Unsupported ≡ cause = cc in
    ap (λ x. wrong_with most_calls scope c.args.measured.now.list c.args.unrolled.now.calls (sentence x)) c.in-Opaque.is
    ∙ ap (λ o. option_or o None) (wrong-opaque scope _ _ _ ∙ ap Some same)

pub returns-in-If-clause-err : goal.returns-in-If-clause-err
returns-in-If-clause-err c = λ cause scope e r m k.
    let same : Unsupported ≡ cause = cc in
    ap (λ x. wrong_with most_calls scope c.args.measured.now.list c.args.unrolled.now.calls (sentence x)) c.in-If.is
    ∙ ap (λ o. option_or o None) (wrong-if scope _ _ _ ∙ ap Some same)

pub returns-in-Barrier-clause-err : goal.returns-in-Barrier-clause-err
returns-in-Barrier-clause-err c = λ cause scope e r m k.
    ap (λ x. wrong_with most_calls scope c.args.measured.now.list c.args.unrolled.now.calls (sentence x)) c.in-Barrier.is
    ∙ ap (λ o. option_or o None) (ap (λ os. wrong_in scope (Barrier (map operand os))) (sym c.deref.ensures.value) ∙ c.barrier.ensures.err cause scope e r)

pub returns-in-Operation-clause-err : goal.returns-in-Operation-clause-err
returns-in-Operation-clause-err c = λ cause scope e r m k.
    ap (λ x. wrong_with most_calls scope c.args.measured.now.list c.args.unrolled.now.calls (sentence x)) c.in-Operation.is
    ∙ c.operate.ensures.err cause scope e r m k

pub returns-in-Include-clause-knows : goal.returns-in-Include-clause-knows
returns-in-Include-clause-knows c = on_ok_weaker c.include.result
    (λ h scope r k. known-after scope (sentence c.args.kind.now) c.args.unrolled.now.known.items k) c.include.ensures.ok

pub returns-in-QubitRegister-clause-knows : goal.returns-in-QubitRegister-clause-knows
returns-in-QubitRegister-clause-knows c = on_ok_weaker c.declare_qubits.result
    (λ h scope r k. known-after scope (sentence c.args.kind.now) c.args.unrolled.now.known.items k) c.declare_qubits.ensures.ok

pub returns-in-BitRegister-clause-knows : goal.returns-in-BitRegister-clause-knows
returns-in-BitRegister-clause-knows c = on_ok_weaker c.declare_bits.result
    (λ h scope r k. known-after scope (sentence c.args.kind.now) c.args.unrolled.now.known.items k) c.declare_bits.ensures.ok

pub returns-in-Barrier-clause-knows : goal.returns-in-Barrier-clause-knows
returns-in-Barrier-clause-knows c = on_ok_weaker c.barrier.result
    (λ h scope r k. known-after scope (sentence c.args.kind.now) c.args.unrolled.now.known.items k) c.barrier.ensures.ok

pub returns-in-Operation-clause-knows : goal.returns-in-Operation-clause-knows
returns-in-Operation-clause-knows c = on_ok_weaker c.operate.result
    (λ h scope r k. known-after scope (sentence c.args.kind.now) c.operate.new.unrolled.known.items (h scope r k)) c.operate.ensures.knows

pub returns-in-Include-clause-recent : goal.returns-in-Include-clause-recent
returns-in-Include-clause-recent c = λ r. c.forget.ensures c.include.new.names.symbols

pub returns-in-QubitRegister-clause-recent : goal.returns-in-QubitRegister-clause-recent
returns-in-QubitRegister-clause-recent c = λ r. c.forget-in-QubitRegister.ensures c.declare_qubits.new.names.symbols

pub returns-in-BitRegister-clause-recent : goal.returns-in-BitRegister-clause-recent
returns-in-BitRegister-clause-recent c = λ r. c.forget-in-BitRegister.ensures c.declare_bits.new.names.symbols
