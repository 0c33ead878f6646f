use Rattle.zx_run.proofs.DiagramLemmas.{one_diagram, one_diagram_fault, no_diagram_fault, one_square_fault, no_square_fault}
use Rattle.zx_run.proofs.laws.diagram_files_have_one_reading.Goals as goal

pub returns-clause-one_diagram : goal.returns-clause-one_diagram
returns-clause-one_diagram c = one_diagram

pub returns-clause-one_fault : goal.returns-clause-one_fault
returns-clause-one_fault c = one_diagram_fault

pub returns-clause-no_file : goal.returns-clause-no_file
returns-clause-no_file c = no_diagram_fault

pub returns-clause-one_square_fault : goal.returns-clause-one_square_fault
returns-clause-one_square_fault c = one_square_fault

pub returns-clause-no_square_file : goal.returns-clause-no_square_file
returns-clause-no_square_file c = no_square_fault
