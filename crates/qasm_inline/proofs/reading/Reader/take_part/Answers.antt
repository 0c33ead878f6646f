-- A statement that is taken in whole.
use Rattle.std.proofs.Common.{subst}
use Rattle.qasm_reader.specs.Parts.{IsFirstPart}
use Rattle.qasm_reader.specs.Views.{placed}
use Rattle.qasm_inline.proofs.ReadingLemmas.{statement-taken}
use Rattle.qasm_inline.proofs.reading.Reader.take_part.Goals as goal

pub returns-in-Statement : goal.returns-in-Statement
returns-in-Statement c = λ all ts rest first taken.
    statement-taken all ts rest c.args.self.now.gate c.args.self.now.circuit c.take.new.self (placed c.in-Statement.statement) c.requires taken
    (subst (λ part. IsFirstPart part ts rest) c.in-Statement.is first) c.take.ensures
