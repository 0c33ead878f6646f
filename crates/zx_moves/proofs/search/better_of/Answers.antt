-- A neighbour without ends is a vertex.
use Rattle.std.proofs.Common.{◌∙◌, sym}
use Rattle.zx_calculus.specs.Graph.{ids, is_interior}
use Rattle.zx_model.specs.Bits.{member}
use Rattle.zx_calculus.proofs.Ids.{and-left}
use Rattle.zx_moves.proofs.search.better_of.Goals as goal

pub pivot_cost-cost-requires-clause-v_live : goal.pivot_cost-cost-requires-clause-v_live
pivot_cost-cost-requires-clause-v_live c =
    and-left (member c.args.v (ids c.args.g.now.graph.vertices)) (is_interior c.args.g.now.graph c.args.v)
    (sym c.may_complement.ensures.value ∙ c.if-not-may_complement.false)
