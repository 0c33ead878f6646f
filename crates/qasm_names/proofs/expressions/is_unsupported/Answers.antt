use Rattle.std.proofs.Common.{sym, ap, ◌∙◌, rules, tests}
use Rattle.std.specs.List.{list_any}
use Rattle.std.proofs.lemmas.Iterator.{YieldsList-from_slice}
use Rattle.std.proofs.lemmas.Iterator.Search.{any_from_yields_List}
use Rattle.qasm_reader.specs.Items.{entry}
use Rattle.qasm_names.specs.Internal.Entries.{is_unsupported_entry}
use Rattle.qasm_names.proofs.Formulas.{unsupported-entries}
use Rattle.qasm_names.proofs.Tests.{any_map}
use Rattle.qasm_names.proofs.expressions.is_unsupported.Goals as goal

pub returns : goal.returns
returns c =
    any_from_yields_List (λ item. is_unsupported_entry (entry item)) _ _ c.any.result c.any.ensures.ran (YieldsList-from_slice c.items.result.now cc) (λ x b q k. search (rules, tests))
    ∙ sym (any_map is_unsupported_entry entry c.items.result.now)
    ∙ ap (list_any is_unsupported_entry) c.items.ensures.value ∙ unsupported-entries c.args.expression.now c.items.ensures.postfix
