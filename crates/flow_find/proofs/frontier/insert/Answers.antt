-- The row of the vertex, added to and put among the others.
use Rattle.std.proofs.Common.{subst, List}
use Rattle.gflow_laws.specs.Flow.{is_in}
use Rattle.gflow_laws.specs.Seen.{seen}
use Rattle.gflow_laws.proofs.Views.{Simple-seen}
use Rattle.flow_find.specs.declared.row.Row.{Row}
use Rattle.flow_find.specs.Internal.Rows.{IsSum}
use Rattle.flow_find.proofs.Steps.{counted}
use Rattle.flow_find.proofs.Few.{length-put}
use Rattle.flow_find.proofs.Passing.{inserted, near}
use Rattle.flow_find.proofs.frontier.insert.Goals as goal

pub returns-clause-rows : goal.returns-clause-rows
returns-clause-rows c = λ may frontier.
    let start : Row = record { pivot = c.args.u; columns = c.in_ok-left_neighbours.field-0; members = c.in_ok-one.field-0; size = 1 } in
    inserted (seen c.args.g.now.graph) (is_in c.args.left.now.ids) may c.args.u start c.count.new.self c.args.rows.now.items c.put.new.rows.items
    (Simple-seen c.args.g.now.graph c.left_neighbours.ensures.valid) c.requires c.in_ok-left_neighbours.ensures.members c.in_ok-one.ensures
    (counted (near (seen c.args.g.now.graph) c.args.u) c.args.rows.now.items start c.add_picked.new.sum c.count.new.self
    c.count.ensures.columns c.count.ensures.members
    (subst (λ (rows : List Row). IsSum (near (seen c.args.g.now.graph) c.args.u) rows start c.add_picked.new.sum) c.deref.ensures.value c.in_ok-add_picked.ensures))
    c.in_ok-put.ensures frontier

pub returns-clause-few : goal.returns-clause-few
returns-clause-few c = length-put c.count.new.self c.args.rows.now.items c.put.new.rows.items c.in_ok-put.ensures
