-- A graph while gates are put behind it.
use Rattle.std.specs.Prelude.{◌≡◌, ◌≤◌, ◌<◌, ◌+◌, ◌++◌, ℕ, Bool, true, false, Option, Some, None}
use Rattle.std.specs.Prelude.{List, [], length, filter, take}
use Rattle.std.specs.List.{range_with_len}
use Rattle.zx_model.specs.Phase.{turn}
use Rattle.zx_model.specs.Bits.{member}
use Rattle.zx_calculus.specs.Graph.{Graph}
use Rattle.zx_calculus.specs.StepScalars.{IsSumTimes}
use Rattle.zx_gates.specs.Circuit.{Circuit, is_odd_phase}
use Rattle.zx_gates.specs.declared.gate.Gate.{Gate}
use Rattle.circuit_graph.specs.Translation.{written_out}
use Rattle.growing_laws.specs.Growing.{AreOn}
use Rattle.growing_laws.specs.Growth.{Reaches, ComesFrom, graph_of_gates}
use Rattle.growing_laws.specs.Internal.Holding.{LivesIn, run_spot, reached_spot}
use Rattle.phase_groups.specs.Groups.{Phases}
use Rattle.phase_groups.specs.Internal.Agreement.{Agrees}
use Rattle.teleport_circuits.specs.Teleporting.{gate_at, phase_at, vertex_at}
use Rattle.zx_reduce.specs.Internal.Ordering.{IsOrdered}
use Rattle.zx_reduce.specs.Internal.Progress.{Progress, most_tried}

-- Which gates' phases are held: whether it is asked for them, the phase of each gate, the vertex at which it begins, the
-- numbers of those which are held, and how many gates there are.
pub record Held : Type 0 where
  pub asked : Bool
  pub phase : ℕ → ℕ
  pub vertex_of : ℕ → ℕ
  pub gates : List ℕ
  pub count : ℕ

-- it isn't asked for any
abbrev pub none_held : Held
none_held = record { asked = false; phase = λ i. 0; vertex_of = λ i. 0; gates = []; count = 0 }

-- those of the odd phases among the first n gates of a circuit
abbrev pub held_of : Circuit → ℕ → Held
held_of c n = record {
  asked = true;
  phase = phase_at c;
  vertex_of = vertex_at c;
  gates = filter (λ i. is_odd_phase (gate_at c i)) (range_with_len 0 n);
  count = length c.gates;
}

-- h, which is reached from g, holds their phases in these groups
pub record AreHeld (held : Held) (g h : Graph) (r : Reaches g h) (p : Phases) : Type 0 where
  pub below : (i : ℕ) → held.phase i < turn
  pub count : length p.phases ≡ held.count
  pub live : (i : ℕ) → member i held.gates ≡ true → LivesIn r.graph (run_spot g h r (held.vertex_of i)).holder
  pub agrees : Agrees held.phase held.gates (λ i. reached_spot g h r (held.vertex_of i)) p

-- the same where it is asked for them
abbrev pub MayBeHeld : Held → (g h : Graph) → Reaches g h → Option Phases → Type 0
MayBeHeld held g h r None = held.asked ≡ false
MayBeHeld held g h r (Some p) = AreHeld held g h r p

-- it is that of these gates on n qubits, and holds these phases
pub record IsGrown (n : ℕ) (gates : List Gate) (held : Held) (p : Progress) : Type 0 where
  pub on_qubits : AreOn n gates
  pub comes : ComesFrom n gates p.ordered.graph
  pub ordered : IsOrdered p.ordered
  pub sum : IsSumTimes (graph_of_gates n gates) p.scalar p.ordered.graph
  pub inputs : length p.ordered.graph.inputs ≡ length (graph_of_gates n gates).inputs
  pub outputs : length p.ordered.graph.outputs ≡ length (graph_of_gates n gates).outputs
  pub takes_gates : p.takes_gates ≡ true
  pub few : p.steps ≤ most_tried
  pub phases : MayBeHeld held (graph_of_gates n gates) p.ordered.graph comes.reaches p.phases

-- it is that of some gates
pub record HasGrown (p : Progress) : Type 0 where
  pub qubits : ℕ
  pub gates : List Gate
  pub held : Held
  pub grown : IsGrown qubits gates held p

-- it is that of more gates, which come last
abbrev pub Gains : List Gate → Progress → Progress → Type 0
Gains more before after =
    (n : ℕ) (gates : List Gate) (held : Held) → IsGrown n gates held before → IsGrown n (gates ++ more) held after

-- it is that of one more gate of a circuit, number i, and holds its phase where that is odd
abbrev pub GainsNumbered : ℕ → Gate → Progress → Progress → Type 0
GainsNumbered i gate before after = (c : Circuit) → i < length c.gates → gate ≡ gate_at c i →
    IsGrown c.qubits (written_out (take i c.gates)) (held_of c i) before →
    IsGrown c.qubits (written_out (take (i + 1) c.gates)) (held_of c (i + 1)) after
