use Rattle.qasm_reader.proofs.Programs.{one_program}
use Rattle.qasm_reader.proofs.laws.one_program.Goals as goal

pub returns : goal.returns
returns c = one_program
