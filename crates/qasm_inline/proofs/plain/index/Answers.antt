-- Digits between brackets.
use Rattle.std.proofs.Common.{sym, ◌∙◌}
use Rattle.qasm_inline.proofs.SpellLemmas.{first-index}
use Rattle.qasm_inline.proofs.plain.index.Goals as goal

pub returns-then-is_natural : goal.returns-then-is_natural
returns-then-is_natural c =
    first-index c.args.text.now c.in_ok-inside.inside.now c.in_ok-rest.rest.now c.digits-count.result c.in_ok-inside.ensures c.digits-count.ensures.count c.in_ok-rest.ensures
    (λ all. sym (c.is_natural.ensures all) ∙ c.if-is_natural.true)
