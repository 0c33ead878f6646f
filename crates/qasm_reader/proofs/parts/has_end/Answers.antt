use Rattle.std.proofs.Common.{sym, ◌∙◌, rules, tests}
use Rattle.std.proofs.lemmas.Iterator.{YieldsList-from_slice}
use Rattle.std.proofs.lemmas.Iterator.Search.{any_from_yields_List}
use Rattle.qasm_reader.specs.Parts.{ends_part}
use Rattle.qasm_reader.proofs.Ends.{has_end-tokens}
use Rattle.qasm_reader.proofs.parts.has_end.Goals as goal

pub returns : goal.returns
returns c =
    any_from_yields_List (λ t. ends_part t.kind) _ _ c.any.result c.any.ensures.ran (YieldsList-from_slice c.args.tokens.now cc) (λ x b q k. search (rules, tests))
    ∙ sym (has_end-tokens c.args.tokens.now)
