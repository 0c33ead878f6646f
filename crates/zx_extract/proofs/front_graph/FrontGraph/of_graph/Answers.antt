-- The rows are those of the graph.
use Rattle.zx_extract.proofs.Fronts.{same_graph}
use Rattle.zx_extract.proofs.front_graph.FrontGraph.of_graph.Goals as goal

pub returns : goal.returns
returns c = same_graph c.args.graph.graph c.in_ok-rows.rows.lists c.rows_of.ensures.valid c.in_ok-rows.ensures.rows
