-- The end that is read.
use Rattle.zx_extract.proofs.Places.{read_at}
use Rattle.zx_extract.proofs.frontier.Frontier.output.Goals as goal

pub returns : goal.returns
returns c =
    read_at c.args.self.now.graph.graph.outputs c.outputs-outputs.result.now c.args.q c.from.result
    c.index-outputs-from.result c.outputs-outputs.ensures.value
    c.from.ensures c.requires c.index-outputs-from.is
