use Rattle.qasm_scope.proofs.OneProgram.{same_gates, same_program}
use Rattle.qasm_scope.proofs.laws.a_text_declares_one_list_of_gates.Goals as goal

pub returns-clause-programs : goal.returns-clause-programs
returns-clause-programs c = same_program

pub returns-clause-gates : goal.returns-clause-gates
returns-clause-gates c = same_gates
