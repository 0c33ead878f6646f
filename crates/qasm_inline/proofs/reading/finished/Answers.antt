-- The circuit of the program.
use Rattle.qasm_inline.proofs.AnswerLemmas.{elementary, means}
use Rattle.qasm_inline.proofs.reading.finished.Goals as goal

pub returns-in-Ok : goal.returns-in-Ok
returns-in-Ok c = λ text program is taken.
    let answer = c.in-Ok.ensures program taken in
    (elementary program c.in-Ok.circuit answer, program, is, answer.0, means program c.in-Ok.circuit answer)
