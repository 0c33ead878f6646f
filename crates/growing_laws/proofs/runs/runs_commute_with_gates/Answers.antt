-- The laws, by their lemmas.
use Rattle.growing_laws.proofs.RunsGrown.{run_placed, run_grown, run_growing, run_append}
use Rattle.growing_laws.proofs.runs.runs_commute_with_gates.Goals as goal

pub returns-clause-gate : goal.returns-clause-gate
returns-clause-gate c = run_placed

pub returns-clause-gates : goal.returns-clause-gates
returns-clause-gates c = run_grown

pub returns-clause-growing : goal.returns-clause-growing
returns-clause-growing c = run_growing

pub returns-clause-then : goal.returns-clause-then
returns-clause-then c = run_append
