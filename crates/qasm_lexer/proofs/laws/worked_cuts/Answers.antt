-- One line by computing, another from its pieces, and both together.
use Rattle.std.proofs.Common.{ℕ, ◌+◌, ◌^◌, ◌<◌, length, refl, codes, arith, decimal}
use Rattle.qasm_lexer.specs.Tokens.{IsCut}
use Rattle.qasm_lexer.specs.Worked.{gate_line, gate_line_tokens, gate_on, gate_on_tokens}
use Rattle.qasm_lexer.proofs.Scan.{IsCut-tokens_of}
use Rattle.qasm_lexer.proofs.Feeds.{IsCut-append}
use Rattle.qasm_lexer.proofs.Building.{IsCut-nil, IsCut-space, IsCut-word, IsCut-plain_sign, IsCut-decimal}
use Rattle.qasm_lexer.proofs.laws.worked_cuts.Goals as goal

gate_line_is_cut : IsCut 0 gate_line gate_line_tokens
gate_line_is_cut = IsCut-tokens_of 0 gate_line gate_line_tokens refl

gate_on_is_cut : (place n : ℕ) → n < 2 ^ 64 → IsCut place (gate_on n) (gate_on_tokens place n)
gate_on_is_cut place n small =
    IsCut-word (codes "x") (place + 1) refl refl refl refl
    (IsCut-space 32 (place + 2) refl (omega arith)
    (IsCut-word (codes "q") (place + 3) refl refl refl (omega arith)
    (IsCut-plain_sign 91 (place + 4) refl refl (omega arith)
    (IsCut-decimal n (place + 4 + length (decimal n)) small refl refl
    (IsCut-plain_sign 93 (place + 5 + length (decimal n)) refl refl (omega arith)
    (IsCut-plain_sign 59 (place + 6 + length (decimal n)) refl refl (omega arith)
    (IsCut-space 10 (place + 7 + length (decimal n)) refl (omega arith) (IsCut-nil (place + 7 + length (decimal n))))))))))

pub returns-clause-line : goal.returns-clause-line
returns-clause-line c = gate_line_is_cut

pub returns-clause-number : goal.returns-clause-number
returns-clause-number c = gate_on_is_cut

pub returns-clause-both : goal.returns-clause-both
returns-clause-both c = λ n small.
    IsCut-append 0 gate_line (gate_on n) gate_line_tokens (gate_on_tokens (length gate_line) n)
    (codes "gate u3(theta,phi,lambda) q { U(theta,phi,lambda) q; }") refl gate_line_is_cut (gate_on_is_cut (length gate_line) n small)
