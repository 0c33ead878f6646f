-- All bytes that the reader has taken are read.
use Rattle.qasm_inline.proofs.piece_reader.PieceReader.finish.Goals as goal

pub returns-in-Some-clause-answers : goal.returns-in-Some-clause-answers
returns-in-Some-clause-answers c = λ text read. (rw c.in-Some.is at c.known_fault.ensures.some) text read

pub returns-in-None-clause-answers : goal.returns-in-None-clause-answers
returns-in-None-clause-answers c = λ text read.
    c.last_answer.ensures text ((rw c.in-None.is at c.known_fault.ensures.none) text read)
