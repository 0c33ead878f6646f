-- A part that spells no small number.
use Rattle.std.proofs.Common.{◌∙◌, ◌++◌, [], map, decimal, sym, ap}
use Rattle.std.specs.Option.{option_map_or}
use Rattle.zx_text.specs.Pieces.{pieces}
use Rattle.zx_text.proofs.PieceLemmas.{none_small}
use Rattle.zx_text.proofs.numbers.numbers.Goals as goal

pub returns-in-None-clause-none : goal.returns-in-None-clause-none
returns-in-None-clause-none c = λ numbers e.
    let at_text = rw c.in-Some.is at c.loop-rest.invariant.0 in
    none_small c.loop-rest.numbers.items c.next_part.result.0.now
    (option_map_or (λ rest. pieces 32 rest.now) c.next_part.result.1 []) numbers c.in-None.ensures.none
    (e ∙ sym at_text ∙ ap (λ t. map decimal c.loop-rest.numbers.items ++ t) c.next_part.ensures.parts)
