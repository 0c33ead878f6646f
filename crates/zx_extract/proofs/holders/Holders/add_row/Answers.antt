use Rattle.std.proofs.Common.{subst}
use Rattle.std.proofs.lemmas.Result.{on_ok_weaker}
use Rattle.gflow_laws.specs.Flow.{SameSets}
use Rattle.gflow_laws.specs.Outputs.{row_added_table}
use Rattle.zx_extract.specs.Internal.Holders.{Holders, table_from}
use Rattle.zx_extract.proofs.HoldersTables.{SameSets-toggled}
use Rattle.zx_extract.proofs.holders.Holders.add_row.Goals as goal

pub returns : goal.returns
returns c =
    on_ok_weaker c.toggle_set.result
    (λ toggled. subst (λ (h : Holders). SameSets
    (table_from c.toggle_set.new.self.lists c.self.inside.order.items)
    (row_added_table c.args.c c.args.t h.flow)) c.self.view_is
    (SameSets-toggled c.self.inside.held.lists c.toggle_set.new.self.lists c.args.c c.args.t
    c.self.inside.order.items toggled))
    c.toggle_set.ensures.ok
