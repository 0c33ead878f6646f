-- The laws, by their lemmas.
use Rattle.circuit_laws.proofs.Composing.{followed-entry, ends_at_sum, ends_proportional}
use Rattle.circuit_laws.proofs.composition.the_sum_of_peeled_graphs.Goals as goal

pub returns : goal.returns
returns c = record { entry = followed-entry; map = ends_proportional; exact = ends_at_sum }
