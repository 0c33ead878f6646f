use Rattle.zx_model.specs.Bits.{member}
use Rattle.zx_calculus.specs.Graph.{joined}
use Rattle.open_graph.proofs.RowLemmas.{first_alike, first_live}
use Rattle.open_graph.proofs.open_graph.OpenGraph.neighbour_from.Goals as goal

pub returns-clause-first : goal.returns-clause-first
returns-clause-first c =
    first_alike (λ id. member id c.slot.result.now.row.ids) (joined c.args.self.now.graph.edges c.args.v) c.args.start c.first_from.result
    c.slot.ensures.joined c.first_from.ensures.first

pub returns-clause-live : goal.returns-clause-live
returns-clause-live c =
    first_live c.args.self.now.graph c.args.v c.args.start c.first_from.result c.slot.ensures.well_formed (returns-clause-first c)
