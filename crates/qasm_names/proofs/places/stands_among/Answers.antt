use Rattle.std.proofs.Common.{sym, ◌∙◌}
use Rattle.std.specs.Str.{bytes_eq}
use Rattle.qasm_names.proofs.PlaceLemmas.{any-here, any-next}
use Rattle.qasm_names.proofs.places.stands_among.Goals as goal

pub returns-then-is_same : goal.returns-then-is_same
returns-then-is_same c = sym (
    c.loop-other.invariant
    ∙ any-here (λ other. bytes_eq other c.args.name.now) (λ name. name.now) c.args.names.now c.loop-other.other-index _ c.loop-other-test.true
    (sym c.is_same.ensures ∙ c.if-is_same.true))

pub loop-other-preserved : goal.loop-other-preserved
loop-other-preserved c =
    c.loop-other.invariant
    ∙ any-next (λ other. bytes_eq other c.args.name.now) (λ name. name.now) c.args.names.now c.loop-other.other-index _ c.loop-other-test.true
    (sym c.is_same.ensures ∙ c.if-is_same.false)
