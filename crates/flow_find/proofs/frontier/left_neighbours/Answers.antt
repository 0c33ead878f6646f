-- The neighbours, of which those that are left are kept.
use Rattle.std.proofs.Common.{◌∙◌, ap, ◌&&◌}
use Rattle.zx_model.specs.Bits.{member}
use Rattle.zx_calculus.specs.Graph.{joined}
use Rattle.zx_calculus.proofs.Booleans.{and_comm}
use Rattle.gflow_laws.specs.Flow.{is_in}
use Rattle.flow_find.proofs.frontier.left_neighbours.Goals as goal

pub returns-clause-members : goal.returns-clause-members
returns-clause-members c w =
    c.keep.ensures.members w
    ∙ ap (λ b. b && is_in c.args.left.now.ids w) (ap (member w) c.in_ok-set.ensures.cases ∙ c.neighbour_set.ensures.members w)
    ∙ and_comm (joined c.args.g.now.graph.edges c.args.u w) (is_in c.args.left.now.ids w)
