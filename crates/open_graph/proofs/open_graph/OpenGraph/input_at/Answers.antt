use Rattle.std.proofs.Common.{◌∙◌, ap, is_some}
use Rattle.open_graph.proofs.PlaceLemmas.{is_some-place_among, place_holds}
use Rattle.open_graph.proofs.open_graph.OpenGraph.input_at.Goals as goal

pub returns-clause-found : goal.returns-clause-found
returns-clause-found c = ap is_some c.slot.ensures.input ∙ is_some-place_among c.args.v c.args.self.now.graph.inputs

pub returns-clause-place : goal.returns-clause-place
returns-clause-place c = place_holds c.args.v c.args.self.now.graph.inputs c.slot.result.now.input c.slot.ensures.input
