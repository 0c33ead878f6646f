use Rattle.std.proofs.Common.{sym, ◌∙◌, ap}
use Rattle.std.specs.List.{list_any}
use Rattle.qasm_angle.specs.Internal.Constants.{is_parameter}
use Rattle.qasm_angle.proofs.EvaluationLemmas.{value-constant}
use Rattle.qasm_angle.proofs.evaluation.folded.Goals as goal

pub with_constant-requires : goal.with_constant-requires
with_constant-requires c = λ args.
    value-constant c.args.e args (sym (ap (list_any is_parameter) c.steps-else-steps-eq1.ensures) ∙ sym c.names_parameter.ensures ∙ c.if-names_parameter.false)
    ∙ c.in-Ok.ensures.value
