-- A bad byte was found before, or the last lines are still to be read.
use Rattle.std.proofs.Common.{subst}
use Rattle.qasm_inline.specs.PieceReadings.{CameWith}
use Rattle.qasm_inline.proofs.PieceLemmas.{bad_line_told}
use Rattle.qasm_inline.proofs.piece_reader.PieceReader.known_fault.Goals as goal

pub returns-in-Some-clause-some : goal.returns-in-Some-clause-some
returns-in-Some-clause-some c = λ text read.
    bad_line_told c.in-Some.at text (subst (λ bad. CameWith bad c.args.self.now text) c.in-Some.is read.1)

pub returns-in-None-clause-none : goal.returns-in-None-clause-none
returns-in-None-clause-none c = λ text read. subst (λ bad. CameWith bad c.args.self.now text) c.in-None.is read.1
