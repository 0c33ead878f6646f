-- A neighbour is a vertex.
use Rattle.std.proofs.Common.{◌∙◌, sym}
use Rattle.zx_calculus.proofs.Toggling.{member-neighbours, neighbour_live}
use Rattle.open_graph.proofs.open_graph.OpenGraph.neighbour_set.Goals as goal

pub returns-clause-live : goal.returns-clause-live
returns-clause-live c p there =
    neighbour_live c.args.self.now.graph c.args.v p
    (member-neighbours c.args.self.now.graph c.args.v p c.slot.ensures.well_formed ∙ sym (c.slot.ensures.joined p)
    ∙ there)
