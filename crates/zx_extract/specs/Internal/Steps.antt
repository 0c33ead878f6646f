-- The single steps of extraction, and what gathering rows comes to.
use Rattle.std.specs.Prelude.{◌≡◌, ◌≢◌, ◌<◌, ◌≤◌, ◌+◌, ◌*◌, ℕ, true, false, not, ◌&&◌, ◌==◌}
use Rattle.std.specs.Prelude.{take, List, [], ◌∷◌, ◌++◌, length}
use Rattle.std.specs.List.{AllZip}
use Rattle.zx_model.specs.Bits.{member, one_if}
use Rattle.zx_calculus.specs.Graph.{Graph, joined, phase_of, end_vertices, WellFormed}
use Rattle.zx_calculus.specs.Edits.{KeepsEnds}
use Rattle.gflow_laws.specs.Flow.{Correction, order_of, SameSets}
use Rattle.gflow_laws.specs.Outputs.{row_added_table, advanced_table, last_removed_table}
use Rattle.zx_gates.specs.declared.gate.Gate.{Gate}
use Rattle.zx_gates.specs.declared.gate.Gate.TheVariants.{H, Cz, Cx}
use Rattle.circuit_laws.specs.Gates.{gadget_gates, linked_gadget_gates}
use Rattle.zx_gates.specs.Lowering.{phase_gates}
use Rattle.circuit_laws.specs.Peeling.{HasPlainOutput, IsMarkPeel, IsPhaseCleared, IsEdgePeel, IsRowAddition}
use Rattle.circuit_laws.specs.Peeling.{IsAdvance, IsGadgetPeel, IsLinkedGadgetPeel}
use Rattle.zx_extract.specs.Internal.Leading.{Remainder, AreApart, Leads, IsReady, IsFrontier, Settles}
use Rattle.zx_extract.specs.Internal.Lists.{last_set, legs_of, others_below, with_outputs}

-- the Hadamard of the output q was taken off
pub record IsMarkTaken (s : Remainder) (q : ℕ) (t : Remainder) : Type 0 where
  pub peel : IsMarkPeel s.graph q t.graph
  pub table : t.table ≡ s.table
  pub gates : t.gates ≡ H q ∷ s.gates

-- the phase of the output q was taken off
pub record IsPhaseTaken (s : Remainder) (q : ℕ) (t : Remainder) : Type 0 where
  pub cleared : IsPhaseCleared s.graph q t.graph
  pub table : t.table ≡ s.table
  pub gates : t.gates ≡ phase_gates q (phase_of s.graph cleared.vertex) ++ s.gates

-- an edge between the outputs p and q was taken off
pub record IsEdgeTaken (s : Remainder) (p q : ℕ) (t : Remainder) : Type 0 where
  pub peel : IsEdgePeel s.graph p q t.graph
  pub there : joined s.graph.edges peel.first peel.second ≡ true
  pub table : t.table ≡ s.table
  pub gates : t.gates ≡ Cz p q ∷ s.gates

-- the row of the output c was added to that of the output t
pub record IsRowAdded (s : Remainder) (c t : ℕ) (h : Remainder) : Type 0 where
  pub row : IsRowAddition s.graph c t h.graph
  pub table : SameSets h.table (row_added_table row.added row.to s.table)
  pub gates : h.gates ≡ Cx t c ∷ s.gates

-- the row of the output c was added to that of the output t in the flow and by a gate, and the
-- graph stayed
pub record IsSetAdded (s : Remainder) (c t : ℕ) (h : Remainder) : Type 0 where
  pub added : ℕ
  pub to : ℕ
  pub output : HasPlainOutput s.graph c added
  pub output_too : HasPlainOutput s.graph t to
  pub graph : h.graph ≡ s.graph
  pub table : SameSets h.table (row_added_table added to s.table)
  pub gates : h.gates ≡ Cx t c ∷ s.gates

-- v is the vertex of the last correction
pub record HasLast (table : List Correction) (v : ℕ) : Type 0 where
  pub before : List Correction
  pub entry : Correction
  pub split : table ≡ before ++ entry ∷ []
  pub vertex : entry.vertex ≡ v

-- the vertex of the output q is in the last set
pub record IsPicked (s : Remainder) (q : ℕ) : Type 0 where
  pub within : q < length s.graph.outputs
  pub there : (u : ℕ) → HasPlainOutput s.graph q u → last_set s.table u ≡ true

-- no vertex of an output is in the last set
abbrev pub HasNoOutput : Remainder → Type 0
HasNoOutput s = (p u : ℕ) → HasPlainOutput s.graph p u → last_set s.table u ≡ false

-- of the outputs q alone is in the last set
abbrev pub HasOneOutput : Remainder → ℕ → Type 0
HasOneOutput s q = (p u : ℕ) → HasPlainOutput s.graph p u → last_set s.table u ≡ (p == q)

-- t is s after at most k rows of outputs were added to those of others
pub record AddsRows (s : Remainder) (k : ℕ) (t : Remainder) : Type 0 where
  pub leads : Leads s k 0 0 t
  pub ready : IsReady t
  pub frontier : IsFrontier t.graph
  pub order : order_of t.table ≡ order_of s.table
  pub same : t.graph.vertices ≡ s.graph.vertices
  pub ends : t.graph.outputs ≡ s.graph.outputs

-- t is s after rows were added to that of the output q, so that of the outputs below i only q may be
-- in the last set
pub record IsGathered (s : Remainder) (q i : ℕ) (t : Remainder) : Type 0 where
  pub rows : AddsRows s (others_below q i) t
  pub itself : (u : ℕ) → HasPlainOutput t.graph q u → last_set t.table u ≡ true
  pub gone : (p u : ℕ) → p < i → p ≢ q → HasPlainOutput t.graph p u → last_set t.table u ≡ false

-- t is s but for the edges of the vertex at the output q
pub record IsButRow (s : Remainder) (q : ℕ) (t : Remainder) : Type 0 where
  pub edges : (u p w : ℕ) → HasPlainOutput s.graph q u → p ≢ u → w ≢ u →
      joined t.graph.edges p w ≡ joined s.graph.edges p w
  pub vertices : t.graph.vertices ≡ s.graph.vertices
  pub inputs : t.graph.inputs ≡ s.graph.inputs
  pub outputs : t.graph.outputs ≡ s.graph.outputs
  pub table : t.table ≡ s.table
  pub gates : t.gates ≡ s.gates

-- t is what gathering rows at the output q comes to, but for that output's own row
pub record IsGatheredBesideRow (s : Remainder) (q i : ℕ) (t : Remainder) : Type 0 where
  pub whole : Remainder
  pub gathered : IsGathered s q i whole
  pub alike : IsButRow whole q t
  pub formed : WellFormed t.graph
  pub stays : t.graph ≡ s.graph

-- the vertex at the output q has those neighbours of v that aren't outputs, in place of its own
pub record IsRowReplaced (s : Remainder) (v q : ℕ) (t : Remainder) : Type 0 where
  pub link : ℕ
  pub output : HasPlainOutput s.graph q link
  pub row : (w : ℕ) → w ≢ link → joined t.graph.edges link w ≡
      (joined s.graph.edges v w && not (member w (end_vertices s.graph.outputs)))
  pub others : (p w : ℕ) → p ≢ link → w ≢ link → joined t.graph.edges p w ≡ joined s.graph.edges p w
  pub vertices : t.graph.vertices ≡ s.graph.vertices
  pub frame : KeepsEnds s.graph t.graph
  pub table : t.table ≡ s.table
  pub gates : t.gates ≡ s.gates

-- the last vertex v took the place of the vertex at the output q
pub record IsAdvanced (s : Remainder) (v q : ℕ) (t : Remainder) : Type 0 where
  pub last : HasLast s.table v
  pub advance : IsAdvance s.graph q t.graph
  pub table : SameSets t.table (advanced_table advance.spider last.before)
  pub gates : t.gates ≡ H q ∷ s.gates

-- the last vertex v, a gadget on these outputs, was taken off
pub record IsGadgetTaken (s : Remainder) (v : ℕ) (qubits : List ℕ) (t : Remainder) : Type 0 where
  pub last : HasLast s.table v
  pub peel : IsGadgetPeel s.graph v qubits t.graph
  pub table : SameSets t.table (last_removed_table last.entry last.before)
  pub gates : t.gates ≡ gadget_gates (phase_of s.graph v) qubits ++ s.gates

-- the last vertex v, a gadget through the output q and on these outputs, was taken off
pub record IsLinkedGadgetTaken (s : Remainder) (v q : ℕ) (qubits : List ℕ) (t : Remainder) : Type 0 where
  pub last : HasLast s.table v
  pub peel : IsLinkedGadgetPeel s.graph v q qubits t.graph
  pub table : SameSets t.table (last_removed_table last.entry last.before)
  pub gates : t.gates ≡ linked_gadget_gates (phase_of s.graph v) q qubits ++ s.gates

-- the qubits are those whose outputs stand at the legs of v
abbrev pub AreLegs : Graph → ℕ → List ℕ → Type 0
AreLegs g v qubits = AllZip (HasPlainOutput g) qubits (legs_of g v)

-- the output z stands at a leg of v that has no input
pub record IsSpareLeg (g : Graph) (v z : ℕ) : Type 0 where
  pub leg : ℕ
  pub output : HasPlainOutput g z leg
  pub near : joined g.edges v leg ≡ true
  pub no_input : member leg (end_vertices g.inputs) ≡ false

-- no leg of v is in the last set
abbrev pub AreLegsFree : Remainder → ℕ → Type 0
AreLegsFree s v = (u : ℕ) → member u (legs_of s.graph v) ≡ true → last_set s.table u ≡ false

-- t is s after rows of outputs were added to those of some legs of v, which are no legs then; the
-- last set stayed
pub record TakesLegs (s : Remainder) (v : ℕ) (t : Remainder) : Type 0 where
  pub count : ℕ
  pub rows : AddsRows s count t
  pub fewer : count + length (legs_of t.graph v) ≤ length (legs_of s.graph v)
  pub stays : (u : ℕ) → last_set t.table u ≡ last_set s.table u
  pub free : AreLegsFree t v

-- t is s after the row of the leg at z was added to those of the other legs of v at outputs below i
pub record IsLegShared (s : Remainder) (v z i : ℕ) (t : Remainder) : Type 0 where
  pub taken : TakesLegs s v t
  pub spare : IsSpareLeg t.graph v z
  pub gone : (p u : ℕ) → p < i → p ≢ z → HasPlainOutput t.graph p u → joined t.graph.edges v u ≡ false

-- each leg of v has an input
abbrev pub HasNoSpareLeg : Graph → ℕ → Type 0
HasNoSpareLeg g v = (q u : ℕ) → HasPlainOutput g q u → joined g.edges v u ≡ true →
    member u (end_vertices g.inputs) ≡ true

-- a leg of v that has no input is the only leg
abbrev pub HasOneLegOrInputs : Graph → ℕ → Type 0
HasOneLegOrInputs g v =
    (z p u : ℕ) → IsSpareLeg g v z → HasPlainOutput g p u → joined g.edges v u ≡ true → p ≡ z

-- t is s after the output q was settled: it has phase 0, and no edge joins it with an output below
-- `end`
pub record IsSettling (s : Remainder) (q end : ℕ) (t : Remainder) : Type 0 where
  pub settles : Settles s (1 + others_below q end) t
  pub phase : (u : ℕ) → HasPlainOutput t.graph q u → phase_of t.graph u ≡ 0
  pub apart : (r : ℕ) → r < end → AreApart t.graph q r

-- after some exchanges the outputs stand at these vertices, the first i of them where the inputs of
-- their numbers do
pub record IsUncrossed (s : Remainder) (i : ℕ) (vertices : List ℕ) (gates : List Gate) : Type 0 where
  pub formed : WellFormed (with_outputs vertices s.graph)
  pub as_many : length vertices ≡ length s.graph.outputs
  pub leads : Leads s (3 * i) 0 0
      (record { graph = with_outputs vertices s.graph; table = s.table; gates = gates })
  pub done : take i vertices ≡ take i (end_vertices s.graph.inputs)

-- t is s after the edge between the outputs p and q was taken off, if there was one
pub record IsUnjoined (s : Remainder) (p q : ℕ) (t : Remainder) : Type 0 where
  pub settles : Settles s (one_if (not (p == q))) t
  pub apart : AreApart t.graph p q
