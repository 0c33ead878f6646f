use Rattle.std.proofs.Common.{drop}
use Rattle.gflow_laws.specs.Seen.{seen}
use Rattle.flow_find.specs.Frontiers.{around}
use Rattle.flow_find.proofs.Steps.{IsSumSoFar}
use Rattle.flow_find.proofs.rows.add_picked.Given as goal

abbrev pub invariant-loop-row : goal.invariant-loop-row
invariant-loop-row l =
    IsSumSoFar (around (seen l.g.graph) l.picked.vertex l.picked.neighbours l.picked.itself) l.rows (drop l.row-index l.rows) l.fn.sum l.sum
