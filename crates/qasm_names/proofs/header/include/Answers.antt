use Rattle.std.proofs.Common.{◌≡◌, true, false, Some, sym, ap, ◌∙◌, arith}
use Rattle.qasm_names.specs.Kept.{gate_count}
use Rattle.qasm_names.proofs.Including.{any-first, counted, header_cause, other_file}
use Rattle.qasm_names.proofs.header.include.Goals as goal

pub returns-then-not-is_header-clause-err : goal.returns-then-not-is_header-clause-err
returns-then-not-is_header-clause-err c = λ cause scope e r.
    other_file scope c.args.text.now (sym c.if-not-is_header.ensures) ∙ ap Some cc

pub returns-then-any_declared-clause-err : goal.returns-then-any_declared-clause-err
returns-then-any_declared-clause-err c = λ cause scope e r.
    header_cause scope c.args.text.now true (sym c.if-not-is_header.ensures)
    (any-first c.args.names.now scope _ true r c.first_table.ensures.names c.if-any_declared.ensures) ∙ ap Some cc

pub returns-clause-ok : goal.returns-clause-ok
returns-clause-ok c = λ scope r.
    header_cause scope c.args.text.now false (sym c.if-not-is_header.ensures)
    (any-first c.args.names.now scope _ false r c.first_table.ensures.names c.if-any_declared.ensures)

pub returns-clause-after : goal.returns-clause-after
returns-clause-after c = λ scope r.
    let reserved = c.in_ok-reserve_gates.ensures scope r in
    let count : c.new-shared.result.base ≡ gate_count scope = c.new-shared.ensures.base ∙ omega (arith, c.len.ensures, counted c.reserve_gates.new.self scope reserved) in
    c.in_ok-declare_further.ensures scope
    (c.in_ok-declare_first.ensures scope reserved count (any-first c.args.names.now scope _ false r c.first_table.ensures.names c.if-any_declared.ensures)) count
