use Rattle.std.proofs.Common.{sym, ap, ◌∙◌}
use Rattle.qasm_scope.specs.Measurements.{holds_any}
use Rattle.qasm_unroll.specs.Internal.Spans.{span_range}
use Rattle.qasm_unroll.proofs.RangeLemmas.{first-held, none-held-from, single-held}
use Rattle.qasm_unroll.proofs.measured.holds_any.Goals as goal

pub returns-in-Single : goal.returns-in-Single
returns-in-Single c =
    c.contains.ensures ∙ single-held c.in-Single.place c.args.set.now.numbers ∙ ap (λ span. holds_any c.args.set.now.numbers (span_range span)) (sym c.in-Single.is)

pub returns-in-Some : goal.returns-in-Some
returns-in-Some c =
    first-held c.args.set.now.numbers c.in-Register.first c.in-Register.size c.in-Some.place c.in-Some.ensures.first
    ∙ ap (λ span. holds_any c.args.set.now.numbers (span_range span)) (sym c.in-Register.is)

pub returns-in-None : goal.returns-in-None
returns-in-None c =
    none-held-from c.args.set.now.numbers c.in-Register.first c.in-Register.size c.in-None.ensures.first
    ∙ ap (λ span. holds_any c.args.set.now.numbers (span_range span)) (sym c.in-Register.is)
