-- The row of one vertex.
use Rattle.std.proofs.lemmas.Result.{on_ok_weaker}
use Rattle.zx_extract.proofs.Fronts.{row_put}
use Rattle.zx_extract.proofs.front_graph.put_row.Goals as goal

pub returns : goal.returns
returns c = on_ok_weaker c.toggle.result
    (row_put c.args.rows.now.lists c.clear.new.self.lists c.toggle.new.self.lists c.args.u c.args.row.now.ids
    c.clear.ensures.own c.clear.ensures.others) c.toggle.ensures.ok
