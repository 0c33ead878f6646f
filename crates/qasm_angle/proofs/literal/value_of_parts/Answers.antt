use Rattle.std.proofs.Common.{◌+◌, ◌-◌, ◌^◌, sym, ◌∙◌, ap, arith}
use Rattle.qasm_angle.specs.Literals.{digits_of, decimal}
use Rattle.qasm_angle.proofs.LiteralLemmas.{value-negative, value-positive}
use Rattle.qasm_angle.proofs.literal.value_of_parts.Goals as goal

pub returns-then-is_negative : goal.returns-then-is_negative
returns-then-is_negative c =
    let mantissa = c.args.mantissa.now in
    c.decimal.ensures ∙ ap (λ x. decimal (digits_of mantissa) 0 (x + c.places-places.result)) c.from.ensures
    ∙ value-negative mantissa c.args.exponent.now _ _ (2 ^ 64 - 1) c.size-size.ensures c.places-places.ensures.places (sym c.is_negative.ensures ∙ c.if-is_negative.true) (omega arith)

pub returns-else-is_negative : goal.returns-else-is_negative
returns-else-is_negative c =
    let mantissa = c.args.mantissa.now in
    c.decimal-else-is_negative.ensures ∙ ap (λ x. decimal (digits_of mantissa) x c.places-places.result) c.from-else-is_negative.ensures
    ∙ value-positive mantissa c.args.exponent.now _ _ (2 ^ 64 - 1) c.size-size.ensures c.places-places.ensures.places (sym c.is_negative.ensures ∙ c.if-is_negative.false) (omega arith)
