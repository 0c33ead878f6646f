-- What is put out at the end is an expression's postfix order.
use Rattle.std.proofs.Common.{map}
use Rattle.qasm_lexer.specs.Tokens.{lexemes}
use Rattle.qasm_reader.specs.Items.{entry}
use Rattle.qasm_reader.specs.Internal.Machine.{machine_state}
use Rattle.qasm_reader.proofs.Expressions.{run_postfix}
use Rattle.qasm_reader.proofs.machine.expression.Goals as goal

pub new-requires : goal.new-requires
new-requires c =
    run_postfix (lexemes c.args.tokens.now) (machine_state c.new-machine.result) (machine_state c.run.new.self) (map entry c.in_ok-items.items.items) (lexemes c.in_ok-rest.rest.now) c.new-machine.ensures c.in_ok-rest.ensures c.in_ok-items.ensures
