-- Circuits that differ in the phases of their phase gates alone.
-- Kissinger and van de Wetering, "Reducing the number of non-Clifford gates in quantum circuits" (Phys. Rev. A 102,
-- 022406, 2020), on phase teleportation.
use Rattle.std.specs.Prelude.{◌≡◌, ◌⊎◌, ◌==◌, ℕ, suc, Bool, false, not, if◌then◌else◌, Option, Some, None}
use Rattle.std.specs.Prelude.{List, [], ◌∷◌, filter}
use Rattle.std.specs.List.{fold}
use Rattle.zx_model.specs.Phase.{sum_of_phases, opposite_phase}
use Rattle.zx_calculus.specs.Graph.{Graph}
use Rattle.zx_gates.specs.Circuit.{Circuit}
use Rattle.zx_gates.specs.declared.gate.Gate.{Gate}
use Rattle.zx_gates.specs.declared.gate.Gate.TheVariants.{Phase}
use Rattle.circuit_graph.specs.Translation.{by_hadamards, with_gate, phase_vertex, wires}

-- b is a, but that each phase gate may have another phase or be left out
abbrev pub IsSkeleton : List Gate → List Gate → Type 0
IsSkeleton [] b = b ≡ []
IsSkeleton (Phase q k ∷ a) b =
    ((l : ℕ) × (rest : List Gate) × (b ≡ Phase q l ∷ rest) × IsSkeleton a rest) ⊎ IsSkeleton a b
IsSkeleton (gate ∷ a) b = (rest : List Gate) × (b ≡ gate ∷ rest) × IsSkeleton a rest

-- the phase of a gate
abbrev pub phase_in : Gate → ℕ
phase_in (Phase q k) = k
phase_in other = 0

-- the gate with another phase, where it is a phase gate
abbrev pub with_phase_in : ℕ → Gate → Gate
with_phase_in k (Phase q j) = Phase q k
with_phase_in k other = other

-- the gates with other phases, where the first gate has the number i
abbrev pub with_phases : (ℕ → ℕ) → ℕ → List Gate → List Gate
with_phases phase i [] = []
with_phases phase i (gate ∷ gates) = with_phase_in (phase i) gate ∷ with_phases phase (suc i) gates

-- a phase gate of phase 0 does nothing
abbrev pub is_idle : Gate → Bool
is_idle (Phase q k) = k == 0
is_idle other = false

-- the gates without phase gates of phase 0
abbrev pub without_idle : List Gate → List Gate
without_idle gates = filter (λ gate. not (is_idle gate)) gates

-- a phase more at a vertex, where there is one
abbrev pub added_at : Option ℕ → ℕ → (ℕ → ℕ) → ℕ → ℕ
added_at None k more v = more v
added_at (Some u) k more v = if v == u then sum_of_phases (more v) k else more v

-- what other phases add at the vertices: at the place of each gate its new phase less the old one; the gates come after
-- the graph, and the first has the number i
abbrev pub added_from : (ℕ → ℕ) → ℕ → Graph → List Gate → (ℕ → ℕ) → ℕ → ℕ
added_from phase i g [] more = more
added_from phase i g (gate ∷ gates) more =
    added_from phase (suc i) (fold with_gate g (by_hadamards gate)) gates
    (added_at (phase_vertex g gate) (sum_of_phases (phase i) (opposite_phase (phase_in gate))) more)

abbrev pub added_by : Circuit → (ℕ → ℕ) → ℕ → ℕ
added_by c phase = added_from phase 0 (wires c.qubits) c.gates (λ v. 0)

-- as many qubits, with other gates
abbrev pub with_gates : Circuit → List Gate → Circuit
with_gates c gates = record { qubits = c.qubits; gates = gates }
