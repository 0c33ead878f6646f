use Rattle.std.proofs.Common.{◌≡◌, None, sym, ap, ◌∙◌, rules}
use Rattle.std.specs.List.{slice_get}
use Rattle.qasm_unroll.proofs.SizeLemmas.{sizes-some, sizes-none}
use Rattle.qasm_unroll.proofs.applications.first_size.Goals as goal

pub returns-in-Some : goal.returns-in-Some
returns-in-Some c = sym (
    ap (λ sizes. slice_get sizes 0) (c.loop-span.invariant ∙ sizes-some c.args.spans.now c.loop-span.span-index _ c.in-Some.size c.loop-span-test.true (sym c.register_size.ensures ∙ c.in-Some.is)))

pub loop-span-preserved : goal.loop-span-preserved
loop-span-preserved c =
    let none : c.register_size.result ≡ None = search rules in
    c.loop-span.invariant ∙ sizes-none c.args.spans.now c.loop-span.span-index _ c.loop-span-test.true (sym c.register_size.ensures ∙ none)
