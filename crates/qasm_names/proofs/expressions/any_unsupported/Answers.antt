use Rattle.std.proofs.Common.{sym, ◌∙◌, rules, tests}
use Rattle.std.proofs.lemmas.Iterator.{YieldsList-from_slice}
use Rattle.std.proofs.lemmas.Iterator.Search.{any_from_yields_List}
use Rattle.qasm_reader.specs.Postfix.{formula_of}
use Rattle.qasm_scope.specs.Angles.{is_unsupported}
use Rattle.qasm_names.proofs.Tests.{any_map}
use Rattle.qasm_names.proofs.expressions.any_unsupported.Goals as goal

pub returns : goal.returns
returns c =
    any_from_yields_List (λ e. is_unsupported (formula_of e)) _ _ c.any.result c.any.ensures.ran (YieldsList-from_slice c.args.expressions.now cc) (λ x b q k. search (rules, tests))
    ∙ sym (any_map is_unsupported formula_of c.args.expressions.now)
