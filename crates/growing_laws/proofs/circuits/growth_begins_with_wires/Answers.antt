-- The laws, by their lemmas.
use Rattle.std.proofs.Common.{refl}
use Rattle.growing_laws.proofs.TranslatedGraphs.{wires_growing, wires_ranked}
use Rattle.growing_laws.proofs.circuits.growth_begins_with_wires.Goals as goal

pub returns-clause-circuit : goal.returns-clause-circuit
returns-clause-circuit c = λ n. refl

pub returns-clause-growing : goal.returns-clause-growing
returns-clause-growing c = wires_growing

pub returns-clause-flow : goal.returns-clause-flow
returns-clause-flow c = wires_ranked
