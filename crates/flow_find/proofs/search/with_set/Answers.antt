-- A column that the rows lack.
use Rattle.std.proofs.Common.{sym, ◌∙◌, true≢false}
use Rattle.gflow_laws.specs.Seen.{seen}
use Rattle.gflow_laws.specs.Flow.{is_in}
use Rattle.flow_find.proofs.Solving.{some_lacked}
use Rattle.flow_find.proofs.search.with_set.Goals as goal

pub returns-else-is_empty-clause-none : goal.returns-else-is_empty-clause-none
returns-else-is_empty-clause-none c =
    some_lacked (seen c.args.g.now.graph) (is_in c.args.left.now.ids) c.args.rows.now c.args.v c.in_ok-row.row.columns.ids
    (λ e. true≢false (sym (c.is_empty.ensures.1 e) ∙ c.if-is_empty.false)) c.in_ok-row.ensures.columns
