-- A translation under way: the graph so far, and the corrections of the spiders that the wires have left.
use Rattle.std.specs.Prelude.{◌≡◌, ℕ, ◌+◌, ◌≤◌, ltb, true, List, [], ◌∷◌, ◌++◌, length}
use Rattle.std.specs.List.{count_by, fold}
use Rattle.zx_model.specs.Number.{one}
use Rattle.zx_calculus.specs.Graph.{XY, Vertex, Graph, ids, plane_of, WellFormed}
use Rattle.zx_model.specs.Bits.{member}
use Rattle.zx_calculus.specs.Counts.{odd_phases}
use Rattle.zx_gates.specs.Circuit.{Circuit, gate_odd_phases}
use Rattle.zx_gates.specs.Counting.{is_h}
use Rattle.zx_gates.specs.declared.gate.Gate.{Gate}
use Rattle.zx_gates.specs.declared.gate.Gate.TheVariants.{H, Phase, Cz}
use Rattle.gflow_laws.specs.Flow.{Correction, IsFlow, SameSets}
use Rattle.gflow_laws.specs.Splits.{split_output_table}
use Rattle.circuit_laws.specs.Followed.{PeelsAt}
use Rattle.circuit_laws.specs.Peeling.{IsSpiderPeel, IsPhasePeel, IsEdgePeel, are_plain}
use Rattle.circuit_graph.specs.Translation.{wires, with_gate, table_from, IsTranslation}

pub record GraphSoFar : Type 0 where
  pub graph : Graph
  pub table : List Correction

-- wires alone, before any gate
abbrev pub begun : ℕ → GraphSoFar
begun n = record { graph = wires n; table = [] }

-- the ids of the vertices are the numbers below that of the vertices
abbrev pub AreNumbered : List Vertex → Type 0
AreNumbered vs = (u : ℕ) → member u (ids vs) ≡ ltb u (length vs)

-- what holds between gates
pub record IsReady (s : GraphSoFar) : Type 0 where
  pub well_formed : WellFormed s.graph
  pub numbered : AreNumbered s.graph.vertices
  pub planes : (u : ℕ) → plane_of s.graph u ≡ XY
  pub flow : IsFlow s.graph s.table
  pub plain : are_plain s.graph.outputs ≡ true

-- H: the old spider is corrected by the new one, and comes last
pub record IsSpiderStep (s : GraphSoFar) (q : ℕ) (t : GraphSoFar) : Type 0 where
  pub peel : IsSpiderPeel t.graph q s.graph
  pub id : peel.spider ≡ length s.graph.vertices
  pub table : SameSets t.table (split_output_table peel.next peel.spider s.table)

pub record IsPhaseStep (s : GraphSoFar) (q k : ℕ) (t : GraphSoFar) : Type 0 where
  pub peel : IsPhasePeel t.graph q k s.graph
  pub table : t.table ≡ s.table

pub record IsToggleStep (s : GraphSoFar) (p q : ℕ) (t : GraphSoFar) : Type 0 where
  pub peel : IsEdgePeel t.graph p q s.graph
  pub table : t.table ≡ s.table

-- t is s after a gate of circuits with Cx and Not written out
abbrev pub IsGateStep : GraphSoFar → Gate → GraphSoFar → Type 0
IsGateStep s (H q) t = IsSpiderStep s q t
IsGateStep s (Phase q k) t = IsPhaseStep s q k t
IsGateStep s (Cz p q) t = IsToggleStep s p q t
IsGateStep s other t = ⊥

-- t is s after the gates, one after the other
abbrev pub IsRun : GraphSoFar → List Gate → GraphSoFar → Type 0
IsRun s [] t = s ≡ t
IsRun s (gate ∷ gates) t = (u : GraphSoFar) × IsGateStep s gate u × IsRun u gates t

-- what t is after the gates
pub record Comes (s : GraphSoFar) (gates : List Gate) (t : GraphSoFar) : Type 0 where
  pub ready : IsReady t
  pub graph : t.graph ≡ fold with_gate s.graph gates
  pub table : SameSets t.table (s.table ++ table_from s.graph gates)
  pub map : PeelsAt one t.graph gates s.graph
  pub spiders : length t.graph.vertices ≡ length s.graph.vertices + count_by is_h gates
  pub odd : odd_phases t.graph ≤ odd_phases s.graph + gate_odd_phases gates
  pub inputs : t.graph.inputs ≡ s.graph.inputs
  pub outputs : length t.graph.outputs ≡ length s.graph.outputs

-- after all gates: the translation of the circuit
abbrev pub Translates : Circuit → GraphSoFar → Type 0
Translates c t = IsTranslation c t.graph t.table
