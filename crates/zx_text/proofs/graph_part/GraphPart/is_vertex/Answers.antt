-- A number below that of the vertices is one of them.
use Rattle.std.proofs.Common.{ltb-true, subst}
use Rattle.zx_calculus.specs.Graph.{IsVertex}
use Rattle.zx_text.specs.Internal.Stepping.{Part}
use Rattle.zx_text.proofs.PartLemmas.{live_below}
use Rattle.zx_text.proofs.graph_part.GraphPart.is_vertex.Goals as goal

pub returns-clause-live : goal.returns-clause-live
returns-clause-live c = λ e.
    subst (λ (p : Part). IsVertex p.graph c.args.v) c.self.view_is
    (live_below c.self.inside.graph.graph c.self.inside.vertices c.args.v c.self.invariant.0 (ltb-true c.args.v c.self.inside.vertices e))
