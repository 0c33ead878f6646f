-- The table that was filled in.
use Rattle.std.proofs.Common.{rules}
use Rattle.flow_tests.proofs.tests.finding.fill_along.Goals as goal

pub returns : goal.returns
returns g c = record {
  table = c.fill.new.table.table;
  flow = c.in_ok-verdict.ensures (c.is_flow.ensures (search rules));
  along = c.has_order.ensures (search rules);
}
