use Rattle.std.proofs.Common.{refl}
use Rattle.qasm_scope.proofs.laws.the_header_declares_its_gates.Goals as goal

pub returns-clause-first : goal.returns-clause-first
returns-clause-first c = refl

pub returns-clause-further : goal.returns-clause-further
returns-clause-further c = refl
