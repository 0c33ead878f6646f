use Rattle.qasm_reader.proofs.Programs.{one_fault, program_no_fault, program_or_fault}
use Rattle.qasm_reader.proofs.laws.one_syntax_fault.Goals as goal

pub returns-clause-one : goal.returns-clause-one
returns-clause-one c = one_fault

pub returns-clause-none : goal.returns-clause-none
returns-clause-none c = program_no_fault

pub returns-clause-either : goal.returns-clause-either
returns-clause-either c = program_or_fault
