-- The words, and the gates that they choose, compute.
use Rattle.std.proofs.Common.{refl}
use Rattle.rand_core.specs.Steps.{first_words}
use Rattle.zx_gen.specs.Generator.{drawn}
use Rattle.zx_gen.proofs.laws.worked_circuits.Goals as goal

pub returns-clause-words_of_7 : goal.returns-clause-words_of_7
unfolding first_words
returns-clause-words_of_7 c = refl

pub returns-clause-three_qubits : goal.returns-clause-three_qubits
unfolding drawn
returns-clause-three_qubits c = refl

pub returns-clause-one_qubit : goal.returns-clause-one_qubit
unfolding drawn
returns-clause-one_qubit c = refl
