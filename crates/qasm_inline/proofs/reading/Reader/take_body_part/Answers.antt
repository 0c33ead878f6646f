-- The brace that closes a gate's body.
use Rattle.std.proofs.Common.{Some, subst}
use Rattle.qasm_lexer.specs.Tokens.{lexemes}
use Rattle.qasm_reader.specs.Parts.{IsNextInBody}
use Rattle.qasm_inline.proofs.ReadingLemmas.{end-taken}
use Rattle.qasm_inline.proofs.reading.Reader.take_body_part.Goals as goal

pub returns-in-End : goal.returns-in-End
returns-in-End c = λ all ts rest next taken.
    end-taken all ts (lexemes rest.now) c.args.self.now.circuit c.end_gate.new.self c.args.gate c.args.self.now.gate c.requires taken
    (λ form behind is. subst (λ part. IsNextInBody c.args.gate.place form behind ts (Some (part, rest))) c.in-End.is (next form behind is)) c.end_gate.ensures
