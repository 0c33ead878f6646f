-- The laws, by their lemmas.
use Rattle.circuit_laws.proofs.Wires.{exchange_peels}
use Rattle.circuit_laws.proofs.outputs.exchanges_are_three_cx.Goals as goal

pub returns : goal.returns
returns c = exchange_peels
