-- Other vertices stay in the rows.
use Rattle.zx_extract.proofs.Fronts.{forgotten_more}
use Rattle.zx_extract.proofs.front_graph.forget.Goals as goal

pub loop-output-preserved : goal.loop-output-preserved
loop-output-preserved c = forgotten_more c.args.rows.now.lists c.loop-output.rows.lists c.toggle_one.new.self.lists
    c.output.inside.vertex c.args.v c.loop-output.invariant c.in_ok-toggle_one.ensures.ok
