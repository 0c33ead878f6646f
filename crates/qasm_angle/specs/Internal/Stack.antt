-- Evaluation step by step, on a list of angles of which the last one stands first. Public contracts speak of `value`
-- alone.
use Rattle.std.specs.Prelude.{List, [], ◌∷◌, Result, Ok, Err, slice_get, ok_or, option_map}
use Rattle.qasm_angle.specs.Values.{number, pi, opposite_angle, applied}
use Rattle.qasm_angle.specs.declared.angle.Angle.{Angle}
use Rattle.qasm_angle.specs.declared.errors.AngleFault.{AngleFault}
use Rattle.qasm_angle.specs.declared.errors.AngleFault.TheVariants as cause
use Rattle.qasm_angle.specs.declared.expression.ExprItem.{ExprItem}
use Rattle.qasm_angle.specs.declared.expression.ExprItem.TheVariants.{Number, Pi, Parameter, Negate, Binary}

-- an angle on top of others
abbrev pub on_top : Result Angle AngleFault → List Angle → Result (List Angle) AngleFault
on_top (Ok a) angles = Ok (a ∷ angles)
on_top (Err c) angles = Err c

abbrev pub stepped : ExprItem → List Angle → List Angle → Result (List Angle) AngleFault
stepped (Number a) args angles = on_top (ok_or (option_map number a) cause.TooLarge) angles
stepped Pi args angles = Ok (pi ∷ angles)
stepped (Parameter i) args angles = on_top (ok_or (slice_get args i) cause.NotAnAngle) angles
stepped Negate args [] = Err cause.NotAnAngle
stepped Negate args (a ∷ angles) = Ok (opposite_angle a ∷ angles)
stepped (Binary operator) args [] = Err cause.NotAnAngle
stepped (Binary operator) args (b ∷ []) = Err cause.NotAnAngle
stepped (Binary operator) args (b ∷ a ∷ angles) = on_top (applied operator a b) angles
