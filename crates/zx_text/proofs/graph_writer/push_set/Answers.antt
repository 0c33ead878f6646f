-- A vertex without an output stands in the order.
use Rattle.std.proofs.Common.{◌≡◌, false}
use Rattle.zx_model.specs.Bits.{member}
use Rattle.zx_calculus.specs.Graph.{end_vertices}
use Rattle.zx_text.proofs.WrittenLemmas.{placed}
use Rattle.zx_text.proofs.graph_writer.push_set.Goals as goal

pub correction-requires : goal.correction-requires
correction-requires c =
    let none : member c.args.v (end_vertices c.args.g.now.graph.outputs) ≡ false =
    cc (c.output_at.ensures.found, c.is_some.ensures, c.if-is_some.ensures, c.if-is_some.false) in
    placed c.args.g.now.graph c.args.flow.now.flow c.args.v c.requires.table c.requires.live none
