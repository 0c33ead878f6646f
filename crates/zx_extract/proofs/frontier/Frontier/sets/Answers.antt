-- The vertex of the output.
use Rattle.std.proofs.Common.{◌∙◌, ap}
use Rattle.std.specs.Prelude.{count_by}
use Rattle.gflow_laws.specs.Flow.{Correction, is_in}
use Rattle.zx_extract.proofs.Places.{one_vertex}
use Rattle.zx_extract.proofs.frontier.Frontier.sets.Goals as goal

pub returns : goal.returns
returns c = λ u at_q. c.count.ensures ∙ ap (λ v. count_by (λ (e : Correction). is_in e.members v) c.args.self.now.flow.flow)
    (one_vertex c.args.self.now.graph.graph c.args.q c.present.result u c.present.ensures at_q)
