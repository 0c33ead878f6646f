use Rattle.std.proofs.Common.{◌-◌, ◌^◌, sym, ◌∙◌}
use Rattle.qasm_angle.proofs.LiteralLemmas.{size-byte}
use Rattle.qasm_angle.proofs.literal.with_byte.Goals as goal

pub returns-then-is_ascii_digit : goal.returns-then-is_ascii_digit
returns-then-is_ascii_digit c =
    size-byte c.args.size (2 ^ 64 - 1) c.args.byte _ _ _ (sym c.is_ascii_digit.ensures.value ∙ c.if-is_ascii_digit.true)
    c.saturating_mul.ensures c.from.ensures c.saturating_add.ensures
