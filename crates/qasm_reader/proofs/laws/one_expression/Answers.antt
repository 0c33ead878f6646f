use Rattle.qasm_reader.proofs.Expressions.{one_expression}
use Rattle.qasm_reader.proofs.laws.one_expression.Goals as goal

pub returns : goal.returns
returns c = one_expression
