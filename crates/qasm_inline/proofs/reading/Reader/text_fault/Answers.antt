-- By what was told.
use Rattle.qasm_inline.proofs.reading.Reader.text_fault.Goals as goal

pub returns-in-Ok : goal.returns-in-Ok
returns-in-Ok c = λ text read bad. let is = rw c.in-Ok.is at read in c.grammar_fault.ensures text is.0 is.1 is.2
