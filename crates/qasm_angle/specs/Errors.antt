-- What each error of `eval` stands for.
use Rattle.qasm_angle.specs.declared.errors.AngleError.{AngleError}
use Rattle.qasm_angle.specs.declared.errors.AngleError.TheVariants as errors
use Rattle.qasm_angle.specs.declared.errors.AngleFault.{AngleFault}
use Rattle.qasm_angle.specs.declared.errors.AngleFault.TheVariants.{Divide, TooLarge, NotAnAngle}

abbrev pub error_of : AngleFault → AngleError
error_of Divide = errors.Divide
error_of TooLarge = errors.TooLarge
error_of NotAnAngle = errors.NotAnAngle
