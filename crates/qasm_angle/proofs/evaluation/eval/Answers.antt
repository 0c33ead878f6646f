use Rattle.qasm_angle.specs.declared.errors.AngleFault.TheVariants.{Divide, TooLarge, NotAnAngle}
use Rattle.qasm_angle.proofs.evaluation.eval.Goals as goal

pub returns-in-None : goal.returns-in-None
returns-in-None c = record {
  value = c.angle_of.ensures.value;
  divide = c.angle_of.ensures.cause Divide;
  too_large = c.angle_of.ensures.cause TooLarge;
  not_an_angle = c.angle_of.ensures.cause NotAnAngle;
}
