-- What undoes a circuit.
use Rattle.std.specs.Prelude.{◌*◌, pos, List, map, reverse, ◌++◌}
use Rattle.std.specs.List.{count_by}
use Rattle.zx_model.specs.Phase.{opposite_phase}
use Rattle.zx_model.specs.declared.scalar.Scalar.{Scalar}
use Rattle.zx_gates.specs.Circuit.{Circuit, circuit_of}
use Rattle.zx_gates.specs.Counting.{is_h}
use Rattle.zx_gates.specs.declared.gate.Gate.{Gate}
use Rattle.zx_gates.specs.declared.gate.Gate.TheVariants.{H, Phase, Cz, Cx, Not}

-- The gate that undoes a gate, up to a scalar: a phase gate turns back, any other gate undoes itself.
abbrev pub inverse_gate : Gate → Gate
inverse_gate (H q) = H q
inverse_gate (Phase q k) = Phase q (opposite_phase k)
inverse_gate (Cz q r) = Cz q r
inverse_gate (Cx control target) = Cx control target
inverse_gate (Not q) = Not q

-- the gates backwards, each undone
abbrev pub inverse_of : List Gate → List Gate
inverse_of gates = map inverse_gate (reverse gates)

-- the first circuit, followed by the inverse of the second
abbrev pub undone_by : Circuit → Circuit → Circuit
undone_by first second = circuit_of first.qubits (first.gates ++ inverse_of second.gates)

-- By which number gates followed by their inverse are the identity: H has the matrix 1 1 / 1 -1, so two of them are two
-- times the identity, which is twice the root of two for each H.
abbrev pub undone_scalar : List Gate → Scalar
undone_scalar gates = record { root2 = pos (2 * count_by is_h gates); turn = 0 }
