-- No row has the column that the vertex needs.
use Rattle.zx_calculus.proofs.Ids.{not-true}
use Rattle.gflow_laws.specs.Seen.{seen}
use Rattle.gflow_laws.specs.Flow.{is_in}
use Rattle.flow_find.proofs.Solving.{lacks}
use Rattle.flow_find.proofs.search.lacks_column.Goals as goal

pub returns-in-Some : goal.returns-in-Some
returns-in-Some c = λ e.
    lacks (seen c.args.g.now.graph) (is_in c.args.left.now.ids) c.args.rows.now c.args.v c.in-Some.w c.in-Some.ensures (c.is_column.ensures (not-true c.is_column.result e))
