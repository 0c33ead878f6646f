-- The graph as if rows had been added.
use Rattle.std.proofs.Common.{◌∙◌, ap, subst, sym}
use Rattle.std.proofs.lemmas.Result.{on_ok_weaker}
use Rattle.zx_model.specs.Bits.{member}
use Rattle.zx_calculus.specs.Graph.{Graph, end_vertices}
use Rattle.zx_extract.specs.Internal.FrontGraphs.{AreOutputsApart}
use Rattle.zx_extract.specs.Internal.Frontiers.{remainder_of}
use Rattle.zx_extract.proofs.LastVertex.{last_no_output, frontier_apart}
use Rattle.zx_extract.proofs.BesideRow.{beside_live, gathered_again}
use Rattle.zx_extract.proofs.frontier.Frontier.gather.Goals as goal

pub replace_row-requires-clause-live : goal.replace_row-requires-clause-live
replace_row-requires-clause-live c = beside_live (remainder_of c.args.self.now) c.args.v c.args.t
    (remainder_of c.gather_sets.new.self) c.in_ok-gather_sets.ensures c.requires.last c.requires.plane

pub replace_row-requires-clause-no_output : goal.replace_row-requires-clause-no_output
replace_row-requires-clause-no_output c =
    ap (λ (g : Graph). member c.args.v (end_vertices g.outputs)) c.in_ok-gather_sets.ensures.stays
    ∙ last_no_output c.requires.ready c.requires.frontier c.requires.last

pub replace_row-requires-clause-apart : goal.replace_row-requires-clause-apart
replace_row-requires-clause-apart c = subst AreOutputsApart (sym c.in_ok-gather_sets.ensures.stays)
    (frontier_apart c.requires.ready c.requires.frontier)

pub returns : goal.returns
returns c = on_ok_weaker c.replace_row.result (λ replaced.
    gathered_again (remainder_of c.args.self.now) c.args.v c.args.t (remainder_of c.gather_sets.new.self)
    c.in_ok-gather_sets.ensures c.requires.last c.requires.plane (remainder_of c.replace_row.new.self) replaced)
    c.replace_row.ensures
