-- The laws, by their lemmas.
use Rattle.growing_laws.proofs.TranslatedGraphs.{translated_growing, translated_more, spiders_more, translated_run, translated_times}
use Rattle.growing_laws.proofs.circuits.graphs_of_longer_circuits.Goals as goal

pub returns-clause-growing : goal.returns-clause-growing
returns-clause-growing c = translated_growing

pub returns-clause-more : goal.returns-clause-more
returns-clause-more c = translated_more

pub returns-clause-ids : goal.returns-clause-ids
returns-clause-ids c = spiders_more

pub returns-clause-run : goal.returns-clause-run
returns-clause-run c = translated_run

pub returns-clause-scalar : goal.returns-clause-scalar
returns-clause-scalar c = translated_times
