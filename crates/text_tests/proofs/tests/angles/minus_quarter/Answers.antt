use Rattle.qasm_angle.specs.Trees.{Number, Parameter, Negate, Binary}
use Rattle.qasm_angle.specs.declared.expression.Operation.TheVariants.{Divide}
use Rattle.text_tests.proofs.tests.angles.minus_quarter.Goals as goal

pub new-requires : goal.new-requires
new-requires c = (Binary Divide (Negate (Parameter 0)) (Number c.read.result), c.in_ok-steps.ensures.items)
