use Rattle.std.proofs.Common.{◌==◌, not, sym, ap, ◌∙◌, rules, tests}
use Rattle.std.specs.List.{list_any}
use Rattle.std.proofs.lemmas.Iterator.{YieldsList-from_slice}
use Rattle.std.proofs.lemmas.Iterator.Consumers.{YieldsList-from_filter_map}
use Rattle.std.proofs.lemmas.Iterator.Search.{any_from_yields_List}
use Rattle.qasm_scope.specs.Applications.{register_size}
use Rattle.qasm_unroll.specs.Internal.Spans.{span_range}
use Rattle.qasm_unroll.proofs.SizeLemmas.{sizes-of}
use Rattle.qasm_unroll.proofs.applications.any_other_size.Goals as goal

pub returns : goal.returns
returns c =
    any_from_yields_List (λ other. not (other == c.args.size)) _ _ c.any.result c.any.ensures.ran
    (YieldsList-from_filter_map _ (λ span. register_size (span_range span)) (YieldsList-from_slice c.args.spans.now cc) c.filter_map.ensures.closure (λ x r q k. search (rules, tests)))
    (λ x b q k. search (rules, tests))
    ∙ ap (list_any (λ other. not (other == c.args.size))) (sym (sizes-of c.args.spans.now))
