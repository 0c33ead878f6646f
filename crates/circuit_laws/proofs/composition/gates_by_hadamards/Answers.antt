-- The laws, by their lemmas.
use Rattle.circuit_laws.proofs.ByHadamards.{cx_by_three, not_by_three}
use Rattle.circuit_laws.proofs.composition.gates_by_hadamards.Goals as goal

pub returns-clause-cx : goal.returns-clause-cx
returns-clause-cx c = cx_by_three

pub returns-clause-not : goal.returns-clause-not
returns-clause-not c = not_by_three
