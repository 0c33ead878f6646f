use Rattle.qasm_inline.proofs.Elementary.{meant-few, meant-on, meant-few-bits, meant-within, meant-once}
use Rattle.qasm_inline.proofs.laws.meant_circuits_are_elementary.Goals as goal

pub returns-clause-few : goal.returns-clause-few
returns-clause-few c = meant-few

pub returns-clause-on_qubits : goal.returns-clause-on_qubits
returns-clause-on_qubits c = meant-on

pub returns-clause-few_bits : goal.returns-clause-few_bits
returns-clause-few_bits c = meant-few-bits

pub returns-clause-within : goal.returns-clause-within
returns-clause-within c = meant-within

pub returns-clause-once : goal.returns-clause-once
returns-clause-once c = meant-once
