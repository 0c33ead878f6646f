use Rattle.std.proofs.Common.{◌∙◌, ap, length}
use Rattle.zx_calculus.proofs.Extensionality.{neighbours_ext}
use Rattle.open_graph.proofs.open_graph.OpenGraph.degree.Goals as goal

pub returns-clause-value : goal.returns-clause-value
returns-clause-value c =
    c.len.ensures.value ∙ ap length
    (neighbours_ext c.args.self.now.graph c.args.v c.slot.result.now.row.ids c.slot.ensures.well_formed c.len.ensures.rising c.slot.ensures.joined)
