-- No qubit stands twice, none was measured, and the call was copied.
use Rattle.std.proofs.Common.{sym, ◌∙◌}
use Rattle.std.proofs.lemmas.Result.{IfOk-weaker}
use Rattle.qasm_unroll.proofs.plain.call_plain.Goals as goal

pub returns-clause-called : goal.returns-clause-called
returns-clause-called c = IfOk-weaker c.copy.result _ _ (λ copied h done m. record {
  differ = sym c.has_same_qubit.ensures ∙ c.if-has_same_qubit.false;
  unmeasured = sym (c.has_any_qubit.ensures m) ∙ c.if-has_any_qubit.false;
  comes = λ numbered gates count unrolls known. h done numbered gates count unrolls known;
}) c.copy.ensures.copied
