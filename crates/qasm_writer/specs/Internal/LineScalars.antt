-- The scalar between the line of a gate and the gate.
use Rattle.std.specs.Prelude.{pos}
use Rattle.zx_model.specs.Phase.{quarter_turn, eighth_turn}
use Rattle.zx_model.specs.Scalar.{one_scalar}
use Rattle.zx_model.specs.declared.scalar.Scalar.{Scalar}
use Rattle.zx_gates.specs.Internal.Scalars.{scalar}
use Rattle.zx_gates.specs.declared.gate.Gate.{Gate}
use Rattle.zx_gates.specs.declared.gate.Gate.TheVariants.{H, Phase, Cz, Cx, Not}

-- the scalar that the elements of a gate are times the gate
abbrev pub line_scalar : Gate → Scalar
line_scalar (H q) = scalar (pos 1) eighth_turn
line_scalar (Phase q k) = scalar (pos 2) 0
line_scalar (Cz q r) = scalar (pos 4) quarter_turn
line_scalar (Cx control target) = one_scalar
line_scalar (Not q) = scalar (pos 2) quarter_turn
