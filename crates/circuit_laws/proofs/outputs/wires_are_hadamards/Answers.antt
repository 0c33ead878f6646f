-- The laws, by their lemmas.
use Rattle.std.proofs.Common.{subst}
use Rattle.zx_model.specs.Number.{one}
use Rattle.circuit_laws.specs.Followed.{EndsAt}
use Rattle.circuit_laws.proofs.Wires.{wires_end, hadamards_from-plain}
use Rattle.circuit_laws.proofs.outputs.wires_are_hadamards.Goals as goal

pub returns-clause-ends : goal.returns-clause-ends
returns-clause-ends c = wires_end

pub returns-clause-plain : goal.returns-clause-plain
returns-clause-plain c = λ g w step unmarked. subst (EndsAt one g) (hadamards_from-plain 0 g.inputs unmarked) (wires_end g w step)
