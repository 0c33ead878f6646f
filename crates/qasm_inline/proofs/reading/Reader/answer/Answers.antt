-- The text is no program, or it is one.
use Rattle.qasm_inline.proofs.reading.Reader.answer.Goals as goal

pub returns-in-Some : goal.returns-in-Some
returns-in-Some c = λ text read bad. rw c.in-Some.is at (c.text_fault.ensures text read bad)

pub returns-in-None : goal.returns-in-None
returns-in-None c = λ text read bad.
    let program = rw c.in-None.is at (c.text_fault.ensures text read bad) in
    c.finished.ensures text program.0 program.1 program.2
