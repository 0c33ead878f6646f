-- Each vertex that comes is one of the graph.
use Rattle.std.proofs.Common.{sym, ap, ◌∙◌}
use Rattle.zx_calculus.specs.Graph.{ids}
use Rattle.zx_text.specs.Internal.Stepping.{Part}
use Rattle.open_graph.proofs.Walks.{next_some, next_there}
use Rattle.zx_text.proofs.set_part.without_output.Goals as goal

pub output_at-requires : goal.output_at-requires
output_at-requires c =
    next_there c.loop-v.yielded c.loop-v.v-iterator c.next.new.self (ids c.part.inside.graph.graph.vertices) c.in-Some.v
    (c.loop-v.invariant.all ∙ sym (ap (λ (p : Part). ids p.graph.vertices) c.part.view_is))
    (next_some c.next.result c.loop-v.v-iterator c.next.new.self c.in-Some.v c.next.ensures.steps c.in-Some.is)
