-- The turned over flow is one of the graph.
use Rattle.std.proofs.Common.{sym, subst}
use Rattle.zx_calculus.specs.Graph.{Graph}
use Rattle.gflow_laws.specs.Flow.{IsFlow}
use Rattle.gflow_laws.proofs.Seeing.{flow-same_sets}
use Rattle.zx_extract.proofs.Rows.{same_sets_back}
use Rattle.zx_extract.proofs.frontier.Frontier.begin.Goals as goal

pub returns-clause-flow : goal.returns-clause-flow
returns-clause-flow c =
    subst (λ (g : Graph). IsFlow g c.in_ok-flow.flow.flow) (sym c.in_ok-graph.ensures)
    (flow-same_sets c.args.graph.graph c.args.flow.now.flow c.in_ok-flow.flow.flow (same_sets_back c.in_ok-flow.ensures)
    c.requires)
