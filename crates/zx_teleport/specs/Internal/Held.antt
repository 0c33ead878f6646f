-- Phases of gates, the vertices that hold them at the beginning, and the groups in which they are held.
use Rattle.std.specs.Prelude.{ℕ, if◌then◌else◌, filter}
use Rattle.std.specs.List.{range_with_len}
use Rattle.zx_gates.specs.Circuit.{Circuit, is_odd_phase}
use Rattle.zx_gates.specs.declared.gate.Gate.{Gate}
use Rattle.phase_groups.specs.Groups.{Phases, phase_of_gate}
use Rattle.phase_groups.specs.Internal.Agreement.{Agrees}
use Rattle.teleport_laws.specs.Spots.{spot_at}
use Rattle.teleport_circuits.specs.Circuits.{phase_in}
use Rattle.teleport_circuits.specs.Teleporting.{gate_at, phase_at, vertex_at}

-- the phase of the gate i: that of its group, where it is odd, else its own
abbrev pub phase_held : Phases → ℕ → Gate → ℕ
phase_held p i gate = if is_odd_phase gate then phase_of_gate p i else phase_in gate

-- the same of each gate of a circuit
abbrev pub phases_held : Circuit → Phases → ℕ → ℕ
phases_held c p i = phase_held p i (gate_at c i)

-- of the first n gates the odd phases are held by the vertices to which the gates add them
abbrev pub AreHeldBelow : Circuit → ℕ → Phases → Type 0
AreHeldBelow c n p =
    Agrees (phase_at c) (filter (λ i. is_odd_phase (gate_at c i)) (range_with_len 0 n)) (λ i. spot_at (vertex_at c i)) p
