use Rattle.std.proofs.Common.{sym, ◌∙◌, rules, tests}
use Rattle.std.proofs.lemmas.Iterator.{YieldsList-from_slice}
use Rattle.std.proofs.lemmas.Iterator.Search.{any_from_yields_List}
use Rattle.qasm_names.proofs.Tests.{any_map}
use Rattle.qasm_scope.specs.Measurements.{holds_any}
use Rattle.qasm_unroll.specs.Internal.Spans.{span_range}
use Rattle.qasm_unroll.proofs.measured.any_holds.Goals as goal

pub returns : goal.returns
returns c =
    any_from_yields_List (λ span. holds_any c.args.set.now.numbers (span_range span)) _ _ c.any.result c.any.ensures.ran (YieldsList-from_slice c.args.spans.now cc) (λ x b q k. search (rules, tests))
    ∙ sym (any_map (holds_any c.args.set.now.numbers) span_range c.args.spans.now)
