-- The laws, by their lemmas.
use Rattle.growing_laws.proofs.GrownGraphs.{grown_reached, reached_odd, reached_reduced}
use Rattle.growing_laws.proofs.growth.grown_graphs_are_reached.Goals as goal

pub returns-clause-run : goal.returns-clause-run
returns-clause-run c = grown_reached

pub returns-clause-odd : goal.returns-clause-odd
returns-clause-odd c = reached_odd

pub returns-clause-reduced : goal.returns-clause-reduced
returns-clause-reduced c = reached_reduced
