use Rattle.qasm_scope.proofs.HeaderScope.{first_gate_faultless, further_gate_faultless}
use Rattle.qasm_scope.proofs.laws.the_header_is_faultless.Goals as goal

pub returns-clause-first : goal.returns-clause-first
returns-clause-first c = first_gate_faultless

pub returns-clause-further : goal.returns-clause-further
returns-clause-further c = further_gate_faultless
