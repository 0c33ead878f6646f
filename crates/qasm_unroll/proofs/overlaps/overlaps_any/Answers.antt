use Rattle.std.proofs.Common.{sym, ◌∙◌, rules, tests}
use Rattle.std.proofs.lemmas.Iterator.{YieldsList-from_slice}
use Rattle.std.proofs.lemmas.Iterator.Search.{any_from_yields_List}
use Rattle.qasm_names.proofs.Tests.{any_map}
use Rattle.qasm_unroll.specs.Internal.Spans.{span_range, overlaps}
use Rattle.qasm_unroll.proofs.overlaps.overlaps_any.Goals as goal

pub returns : goal.returns
returns c =
    any_from_yields_List (λ other. overlaps c.args.count (span_range c.args.span.now) (span_range other)) _ _ c.any.result c.any.ensures.ran (YieldsList-from_slice c.args.others.now cc) (λ x b q k. search (rules, tests))
    ∙ sym (any_map (overlaps c.args.count (span_range c.args.span.now)) span_range c.args.others.now)
