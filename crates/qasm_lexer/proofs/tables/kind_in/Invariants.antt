-- No row so far has the bytes, so the rows that are left decide.
use Rattle.std.proofs.Common.{◌≡◌, drop, map}
use Rattle.qasm_lexer.specs.Tokens.{kind_in}
use Rattle.qasm_lexer.proofs.tables.kind_in.Given as goal

abbrev pub invariant-loop-text : goal.invariant-loop-text
invariant-loop-text l =
    kind_in (map (λ row. (row.0.now, row.1)) (drop l.text-index l.rows)) l.bytes
    ≡ kind_in (map (λ row. (row.0.now, row.1)) l.rows) l.bytes
