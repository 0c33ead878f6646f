-- A gate behind the version.
use Rattle.std.proofs.Common.{◌≡◌, Err, rules}
use Rattle.qasm_names.specs.declared.statement_error.StatementError.TheVariants.{Wrong}
use Rattle.qasm_unroll.proofs.CircuitLemmas.{gate-declared, gate-wrong}
use Rattle.qasm_unroll.proofs.circuit.Circuit.after_gate.Goals as goal

pub returns-in-Ok-clause-recent : goal.returns-in-Ok-clause-recent
returns-in-Ok-clause-recent c = c.forget.ensures c.declare.new.names.symbols

pub returns-in-Err-Wrong-clause-recent : goal.returns-in-Err-Wrong-clause-recent
returns-in-Err-Wrong-clause-recent c = c.forget.ensures c.declare.new.names.symbols

pub returns-in-Err-NoMemory-clause-recent : goal.returns-in-Err-NoMemory-clause-recent
returns-in-Err-NoMemory-clause-recent c = c.forget.ensures c.declare.new.names.symbols

pub returns-in-Ok-clause-stage : goal.returns-in-Ok-clause-stage
returns-in-Ok-clause-stage c = λ program form begun.
    gate-declared program c.args.self.now.names c.declare.new.names c.args.self.now.measured c.args.self.now.unrolled c.args.place form begun.0
    (c.in-Ok.ensures.ok form begun.1) (c.in-Ok.ensures.declared form begun.1)

pub returns-in-Err-Wrong-clause-stage : goal.returns-in-Err-Wrong-clause-stage
returns-in-Err-Wrong-clause-stage c = λ program form begun.
    let wrong : c.declare.result ≡ Err (Wrong c.in-Err-Wrong.cause) = search rules in
    gate-wrong program c.args.self.now.names c.args.self.now.measured c.args.self.now.unrolled c.args.place form c.in-Err-Wrong.cause begun.0
    (λ scope. c.declare.ensures.err form c.in-Err-Wrong.cause scope begun.1 wrong)
