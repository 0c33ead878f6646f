-- A graph under extraction, from whose outputs gates are taken off.
use Rattle.std.specs.Prelude.{◌≡◌, ◌≢◌, ◌≤◌, ℕ, ◌+◌, ◌*◌, Bool, true, false, List, ◌++◌, length}
use Rattle.std.specs.List.{All}
use Rattle.zx_calculus.specs.Graph.{XZ, Graph, joined, plane_of, phase_of, IsVertex, WellFormed}
use Rattle.zx_calculus.specs.Counts.{odd_phases, not_XY, XY_without_output}
use Rattle.gflow_laws.specs.Flow.{Correction, IsFlow}
use Rattle.zx_gates.specs.Circuit.{IsOnQubits, gate_odd_phases, most_qubits}
use Rattle.zx_gates.specs.declared.gate.Gate.{Gate}
use Rattle.circuit_laws.specs.Followed.{PeelsAt}
use Rattle.circuit_laws.specs.Peeling.{HasPlainOutput, are_plain}
use Rattle.zx_model.specs.Internal.Powers.{power_of_two}

-- what is left of the graph, its flow, and the gates that were taken off, the first to act first
pub record Remainder : Type 0 where
  pub graph : Graph
  pub table : List Correction
  pub gates : List Gate

-- t is s after at most k gates were taken off, while so many XY vertices and so many others went or
-- became outputs
pub record Leads (s : Remainder) (k spiders gadgets : ℕ) (t : Remainder) : Type 0 where
  pub taken : List Gate
  pub gates : t.gates ≡ taken ++ s.gates
  pub doublings : ℕ
  pub map : PeelsAt (power_of_two doublings) s.graph taken t.graph
  pub few_doublings : doublings ≤ gadgets
  pub odd : odd_phases t.graph + gate_odd_phases taken ≤ odd_phases s.graph
  pub on_qubits : All (IsOnQubits (length s.graph.outputs)) taken
  pub few : length taken ≤ k
  pub XY : XY_without_output t.graph + spiders ≡ XY_without_output s.graph
  pub others : not_XY t.graph + gadgets ≡ not_XY s.graph
  pub inputs : t.graph.inputs ≡ s.graph.inputs
  pub outputs : length t.graph.outputs ≡ length s.graph.outputs

-- what holds from the beginning on
pub record IsGiven (s : Remainder) : Type 0 where
  pub well_formed : WellFormed s.graph
  pub flow : IsFlow s.graph s.table
  pub planes : (v : ℕ) → IsVertex s.graph v → plane_of s.graph v ≢ XZ
  pub few : length s.graph.outputs ≤ most_qubits

-- what holds once the outputs are plain
pub record IsReady (s : Remainder) : Type 0 where
  pub given : IsGiven s
  pub plain : are_plain s.graph.outputs ≡ true

-- no edge joins the outputs p and q
abbrev pub AreApart : Graph → ℕ → ℕ → Type 0
AreApart g p q = (u v : ℕ) → HasPlainOutput g p u → HasPlainOutput g q v → joined g.edges u v ≡ false

-- the outputs at the places that are picked have phase 0, and no edge joins two of them
pub record IsSettled (g : Graph) (picked : ℕ → Bool) : Type 0 where
  pub phase : (p u : ℕ) → picked p ≡ true → HasPlainOutput g p u → phase_of g u ≡ 0
  pub apart : (p q : ℕ) → picked p ≡ true → picked q ≡ true → AreApart g p q

-- this holds of all outputs
abbrev pub IsFrontier : Graph → Type 0
IsFrontier g = IsSettled g (λ p. true)

-- t is s after at most k gates were taken off the outputs: nothing of them is less settled than
-- before, and the flow stays
pub record Settles (s : Remainder) (k : ℕ) (t : Remainder) : Type 0 where
  pub leads : Leads s k 0 0 t
  pub ready : IsReady t
  pub table : t.table ≡ s.table
  pub outputs : t.graph.outputs ≡ s.graph.outputs
  pub phases : (u : ℕ) → phase_of s.graph u ≡ 0 → phase_of t.graph u ≡ 0
  pub edges : (u v : ℕ) → joined s.graph.edges u v ≡ false → joined t.graph.edges u v ≡ false

-- what p XY vertices and q others may cost on n qubits
abbrev pub cost_of : ℕ → ℕ → ℕ → ℕ
cost_of n p q = 2 * n * p + 3 * n * q

-- t is s after some vertices were taken off, each for as many gates as it may cost, by which the sum was doubled so
-- often
pub record AreTakenOff (doublings : ℕ) (s t : Remainder) : Type 0 where
  pub spiders : ℕ
  pub gadgets : ℕ
  pub leads : Leads s (cost_of (length s.graph.outputs) spiders gadgets) spiders gadgets t
  pub doubled : leads.doublings ≡ doublings
  pub ready : IsReady t
  pub frontier : IsFrontier t.graph
