-- The first neighbour is what comes first.
use Rattle.std.proofs.Common.{◌∙◌, ap, slice_get}
use Rattle.zx_moves.proofs.SearchWalks.{first_is}
use Rattle.zx_moves.proofs.search.first_neighbour.Goals as goal

pub returns : goal.returns
returns c = first_is c.next.result c.neighbours.result c.next.new.self c.next.ensures.steps ∙ ap (λ xs. slice_get xs 0) c.neighbours.ensures.value
