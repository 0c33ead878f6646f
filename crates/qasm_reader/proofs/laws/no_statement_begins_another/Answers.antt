use Rattle.qasm_reader.proofs.Programs.{one_statement}
use Rattle.qasm_reader.proofs.laws.no_statement_begins_another.Goals as goal

pub returns : goal.returns
returns c = one_statement
