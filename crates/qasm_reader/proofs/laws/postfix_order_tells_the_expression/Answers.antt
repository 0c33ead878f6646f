use Rattle.qasm_reader.proofs.Expressions.{formula_of_postfix}
use Rattle.qasm_reader.proofs.laws.postfix_order_tells_the_expression.Goals as goal

pub returns : goal.returns
returns c = formula_of_postfix
