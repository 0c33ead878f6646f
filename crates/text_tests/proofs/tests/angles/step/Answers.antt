use Rattle.std.proofs.Common.{refl}
use Rattle.qasm_angle.specs.Trees.{Number}
use Rattle.text_tests.proofs.tests.angles.step.Goals as goal

pub returns-in-Number : goal.returns-in-Number
returns-in-Number c = (Number c.read.result, refl)
