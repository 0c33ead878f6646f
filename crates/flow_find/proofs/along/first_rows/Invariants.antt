use Rattle.std.proofs.Common.{◌≤◌, length, take}
use Rattle.gflow_laws.specs.Flow.{is_in}
use Rattle.gflow_laws.specs.Seen.{seen}
use Rattle.flow_find.specs.Frontiers.{IsFrontier}
use Rattle.flow_find.proofs.Starting.{ended}
use Rattle.flow_find.proofs.along.first_rows.Given as goal

abbrev pub invariant-loop-output : goal.invariant-loop-output
invariant-loop-output l = record {
  rows : IsFrontier (seen l.g.graph) (is_in l.left.ids) (is_in l.left.ids) (ended (seen l.g.graph) (take l.output-index l.output-items)) l.rows.items;
  few : length l.rows.items ≤ l.output-index;
}
