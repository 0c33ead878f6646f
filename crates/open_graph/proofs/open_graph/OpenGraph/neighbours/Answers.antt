use Rattle.std.proofs.Common.{◌∙◌}
use Rattle.zx_calculus.proofs.Extensionality.{neighbours_ext}
use Rattle.open_graph.proofs.open_graph.OpenGraph.neighbours.Goals as goal

pub returns-clause-value : goal.returns-clause-value
returns-clause-value c =
    c.iter.ensures.value ∙ neighbours_ext c.args.self.now.graph c.args.v c.slot.result.now.row.ids c.slot.ensures.well_formed c.iter.ensures.rising c.slot.ensures.joined
