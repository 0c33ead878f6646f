-- The vertex is taken out of those that are left.
use Rattle.std.proofs.Common.{◌∙◌, ap, not, ◌&&◌, List}
use Rattle.zx_calculus.proofs.Ids.{eqb-self}
use Rattle.gflow_laws.specs.Seen.{seen}
use Rattle.gflow_laws.specs.Flow.{is_in}
use Rattle.flow_find.specs.declared.row.Row.{Row}
use Rattle.flow_find.specs.Frontiers.{set_from}
use Rattle.flow_find.proofs.along.correct_last.Goals as goal

pub pass-requires-clause-gone : goal.pass-requires-clause-gone
pass-requires-clause-gone c =
    c.in_ok-take_out.ensures c.args.v ∙ ap (λ b. not b && is_in c.args.left.now.ids c.args.v) (eqb-self c.args.v)

pub returns-clause-table : goal.returns-clause-table
returns-clause-table c = record {
  members = c.in_ok-correction.field-0.ids;
  given = λ w. c.in_ok-correction.ensures w
      ∙ ap (λ (rows : List Row). set_from (seen c.args.g.now.graph) rows c.args.v w) c.deref.ensures.value;
  put = c.set.ensures;
}
