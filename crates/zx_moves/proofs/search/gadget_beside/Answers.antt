-- What is found is the first that passes the test.
use Rattle.std.proofs.Common.{sym, ap, ◌∙◌, rules, tests}
use Rattle.std.specs.List.{find}
use Rattle.std.proofs.lemmas.Iterator.Search.{find_from_yields_List}
use Rattle.zx_calculus.specs.Gadgets.{is_gadget}
use Rattle.zx_moves.proofs.SearchWalks.{unmapped, yields_rest}
use Rattle.zx_moves.proofs.search.gadget_beside.Goals as goal

pub returns : goal.returns
returns c =
    sym (unmapped c.find.result)
    ∙ find_from_yields_List (is_gadget c.args.g.now.graph) _ _ c.find.result c.find.ensures.ran (yields_rest c.neighbours.result) (λ x b q k. search (rules, tests))
    ∙ ap (find (is_gadget c.args.g.now.graph)) c.neighbours.ensures.value
