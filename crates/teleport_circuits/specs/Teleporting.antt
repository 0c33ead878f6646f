-- The phases that the gates of a circuit get where a run of rewrites leads on from its graph.
-- Kissinger and van de Wetering, "Reducing the number of non-Clifford gates in quantum circuits" (Phys. Rev. A 102,
-- 022406, 2020), on phase teleportation.
use Rattle.std.specs.Prelude.{◌<◌, ℕ, if◌then◌else◌, Option, Some, None, List, length, filter, get_or}
use Rattle.std.specs.List.{range_with_len}
use Rattle.zx_model.specs.Phase.{turn}
use Rattle.zx_model.specs.Scalar.{quotient_of_scalars, IsScaled}
use Rattle.zx_model.specs.declared.scalar.Scalar.{Scalar}
use Rattle.zx_calculus.specs.Graph.{Graph}
use Rattle.zx_calculus.specs.Steps.{Step, IsRun}
use Rattle.zx_calculus.specs.StepScalars.{IsSumTimes}
use Rattle.zx_gates.specs.Circuit.{Circuit, is_odd_phase}
use Rattle.zx_gates.specs.Maps.{amp}
use Rattle.zx_gates.specs.declared.gate.Gate.{Gate}
use Rattle.zx_gates.specs.declared.gate.Gate.TheVariants.{H}
use Rattle.circuit_graph.specs.Translation.{places, translated}
use Rattle.teleport_laws.specs.Spots.{Spot, ends_up}
use Rattle.teleport_laws.specs.Groups.{teleported}
use Rattle.teleport_circuits.specs.Circuits.{phase_in, with_gates, with_phases, without_idle}

-- the gate of a number
abbrev pub gate_at : Circuit → ℕ → Gate
gate_at c i = get_or c.gates i (H 0)

-- its phase
abbrev pub phase_at : Circuit → ℕ → ℕ
phase_at c i = phase_in (gate_at c i)

abbrev pub place_number : Option ℕ → ℕ
place_number None = 0
place_number (Some u) = u

-- the vertex to which it adds its phase
abbrev pub vertex_at : Circuit → ℕ → ℕ
vertex_at c i = place_number (get_or (places c) i None)

-- the numbers of the phase gates of odd phases
abbrev pub odd_gates : Circuit → List ℕ
odd_gates c = filter (λ i. is_odd_phase (gate_at c i)) (range_with_len 0 (length c.gates))

-- the new phase of a gate: those of odd phases are put together where they end up together, the others stay
abbrev pub new_phase : Circuit → (ℕ → Spot) → ℕ → ℕ
new_phase c spot i =
    if is_odd_phase (gate_at c i) then teleported (phase_at c) spot (odd_gates c) i else phase_at c i

-- where the phase of each gate ends up
abbrev pub spots_of : (c : Circuit) (steps : List Step) (h : Graph) → IsRun (translated c) steps h → ℕ → Spot
spots_of c steps h run = ends_up (translated c) steps h run (vertex_at c)

-- the gates with these phases
abbrev pub teleported_gates : (c : Circuit) (steps : List Step) (h : Graph) → IsRun (translated c) steps h → List Gate
teleported_gates c steps h run = without_idle (with_phases (new_phase c (spots_of c steps h run)) 0 c.gates)

-- the circuit with these gates
abbrev pub teleported_circuit : (c : Circuit) (steps : List Step) (h : Graph) → IsRun (translated c) steps h → Circuit
teleported_circuit c steps h run = with_gates c (teleported_gates c steps h run)

-- where the sums of the graphs of two circuits are s and t times that of h, the map of the first is s over t times that
-- of the second
abbrev pub HaveQuotient : Circuit → Circuit → Graph → Type 0
HaveQuotient c d h = (s t : Scalar) → t.turn < turn → IsSumTimes (translated c) s h → IsSumTimes (translated d) t h →
    IsScaled c.qubits c.qubits (amp c.gates) (quotient_of_scalars s t) (amp d.gates)
