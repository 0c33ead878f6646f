use Rattle.std.proofs.Common.{map, ap, ◌∙◌}
use Rattle.qasm_unroll.specs.Internal.Spans.{span_range, any_overlap}
use Rattle.qasm_unroll.proofs.OverlapLemmas.{twice-overlap}
use Rattle.qasm_unroll.proofs.overlaps.has_same_qubit.Goals as goal

pub returns : goal.returns
returns c =
    c.any_overlap.ensures ∙ ap (λ n. any_overlap n (map span_range c.args.spans.now)) c.instance_count.ensures
    ∙ twice-overlap _ (map span_range c.args.spans.now)
