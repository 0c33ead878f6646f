use Rattle.std.proofs.Common.{◌≡◌, ◌==◌, ◌-◌, ◌^◌, Some, None, sym, ap, ◌∙◌, rules, arith}
use Rattle.qasm_names.specs.Internal.Registers.{register_cause}
use Rattle.qasm_names.specs.Kept.{found, symbol_taken}
use Rattle.qasm_names.proofs.CheckLemmas.{wrong_in-bits}
use Rattle.qasm_names.proofs.registers.declare_bits.Goals as goal

pub returns-in-Some-clause-err : goal.returns-in-Some-clause-err
returns-in-Some-clause-err c = λ cause scope e r.
    let same : c.in-Some.cause ≡ cause = cc in
    sym (wrong_in-bits c.args.names.now.symbols scope c.args.name.now c.args.size.now (2 ^ 64 - 1) c.args.names.now.bits c.number-count.result r.same_symbols r.sound (omega arith) c.number-count.ensures r.same_bits)
    ∙ ap (register_cause (symbol_taken (found c.args.name.now c.args.names.now.symbols)) (c.number-count.result == 0)) (sym c.too_many-too_many.ensures)
    ∙ sym c.wrong_register.ensures ∙ c.in-Some.is ∙ ap Some same

pub returns-clause-ok : goal.returns-clause-ok
returns-clause-ok c = λ scope r.
    let none : c.wrong_register.result ≡ None = search rules in
    sym (wrong_in-bits c.args.names.now.symbols scope c.args.name.now c.args.size.now (2 ^ 64 - 1) c.args.names.now.bits c.number-count.result r.same_symbols r.sound (omega arith) c.number-count.ensures r.same_bits)
    ∙ ap (register_cause (symbol_taken (found c.args.name.now c.args.names.now.symbols)) (c.number-count.result == 0)) (sym c.too_many-too_many.ensures)
    ∙ sym c.wrong_register.ensures ∙ none
