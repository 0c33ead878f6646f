-- The laws, by their lemmas.
use Rattle.circuit_laws.proofs.Advancing.{spider_peels}
use Rattle.circuit_laws.proofs.outputs.new_spiders_are_hadamards.Goals as goal

pub returns : goal.returns
returns c = λ g q h wg wh step. spider_peels g q h wh step wg
