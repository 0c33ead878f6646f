-- Calls of the header's gates.
use Rattle.std.specs.Prelude.{◌≡◌, ℕ, List, [], length, pos, None, Result}
use Rattle.zx_model.specs.Proportional.{Proportional}
use Rattle.zx_gates.specs.ElementaryMaps.{amp_elementary}
use Rattle.qasm_angle.specs.declared.angle.Angle.{Angle}
use Rattle.qasm_angle.specs.declared.errors.AngleFault.{AngleFault}
use Rattle.qasm_angle.specs.Ratio.{whole}
use Rattle.qasm_angle.specs.Values.{divided}
use Rattle.qasm_scope.specs.Calls.{Event, applied, expand_declared, first_wrong}
use Rattle.qasm_scope.specs.Meaning.{most_calls, with_header}
use Rattle.header_laws.specs.Gates.{Map}

-- what a call of a gate comes to after the header
abbrev pub header_events : List ℕ → List Angle → List ℕ → List Event
header_events name angles qubits = expand_declared (with_header []) name 1 angles qubits

-- A call on these qubits, which are all that there are, has no fault, and the built-in gates that it comes to have this
-- map, up to a nonzero scalar.
pub record HasMap (name : List ℕ) (angles : List Angle) (qubits : List ℕ) (meant : Map) : Type 0 where
  pub faultless : first_wrong most_calls 0 (header_events name angles qubits) ≡ None
  pub map : Proportional (length qubits) (length qubits)
      (amp_elementary (applied (header_events name angles qubits))) meant

-- an angle divided by 2, as expressions have it
abbrev pub half_of : Angle → Result Angle AngleFault
half_of a = divided a (whole (pos 2))
