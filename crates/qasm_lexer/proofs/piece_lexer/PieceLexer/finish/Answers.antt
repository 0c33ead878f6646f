-- A text has one cut or one bad byte, and this is it, unless memory ran out.
use Rattle.std.proofs.Common.{subst}
use Rattle.qasm_lexer.specs.Taken.{CameWith}
use Rattle.qasm_lexer.proofs.Lexing.{only_memory, bad_or_memory}
use Rattle.qasm_lexer.proofs.Taking.{bad_told, cut_or_memory, byte_told, byte_or_memory}
use Rattle.qasm_lexer.proofs.piece_lexer.PieceLexer.finish.Goals as goal

pub returns-in-Some-clause-only : goal.returns-in-Some-clause-only
returns-in-Some-clause-only c = λ bytes tokens taken cut.
    let came = subst (λ fault. CameWith fault c.args.self bytes) c.in-Some.is taken in
    only_memory bytes tokens _ (λ at. bad_told _ c.args.self bytes at came) cut

pub returns-in-Some-clause-bad_byte : goal.returns-in-Some-clause-bad_byte
returns-in-Some-clause-bad_byte c = λ bytes at taken.
    bad_told _ c.args.self bytes at (subst (λ fault. CameWith fault c.args.self bytes) c.in-Some.is taken)

pub returns-in-Some-clause-bad_byte_only : goal.returns-in-Some-clause-bad_byte_only
returns-in-Some-clause-bad_byte_only c = λ bytes at taken bad.
    let came = subst (λ fault. CameWith fault c.args.self bytes) c.in-Some.is taken in
    bad_or_memory bytes _ (λ there. bad_told _ c.args.self bytes there came) at bad

pub returns-in-None-clause-only : goal.returns-in-None-clause-only
returns-in-None-clause-only c = λ bytes tokens taken cut.
    let came = subst (λ fault. CameWith fault c.args.self bytes) c.in-None.is taken in
    cut_or_memory _ bytes tokens (c.finish_line.ensures.cut bytes came) (λ at. c.finish_line.ensures.bad_byte bytes at came) cut

pub returns-in-None-clause-bad_byte : goal.returns-in-None-clause-bad_byte
returns-in-None-clause-bad_byte c = λ bytes at taken.
    byte_told _ bytes at (c.finish_line.ensures.bad_byte bytes at (subst (λ fault. CameWith fault c.args.self bytes) c.in-None.is taken))

pub returns-in-None-clause-bad_byte_only : goal.returns-in-None-clause-bad_byte_only
returns-in-None-clause-bad_byte_only c = λ bytes at taken bad.
    let came = subst (λ fault. CameWith fault c.args.self bytes) c.in-None.is taken in
    byte_or_memory _ bytes at (c.finish_line.ensures.cut bytes came) (λ there. c.finish_line.ensures.bad_byte bytes there came) bad
