-- Gates put behind the outputs of a graph of which vertices may have gone.
-- Duncan, Kissinger, Perdrix and van de Wetering, "Graph-theoretic simplification of quantum circuits with the
-- ZX-calculus" (Quantum 4, 279, 2020), on graph-like diagrams of circuits.
use Rattle.std.specs.Prelude.{◌≡◌, ◌+◌, ◌<◌, ℕ, true, false, not, List, [], ◌∷◌, ◌++◌, length}
use Rattle.std.specs.List.{All, list_all}
use Rattle.zx_model.specs.Bits.{member}
use Rattle.zx_calculus.specs.Graph.{Graph, ids, IsVertex, WellFormed}
use Rattle.zx_calculus.specs.Steps.{Step}
use Rattle.move_laws.specs.Orders.{is_split}
use Rattle.zx_gates.specs.Circuit.{Circuit, IsOnQubits}
use Rattle.zx_gates.specs.declared.gate.Gate.{Gate}
use Rattle.zx_gates.specs.declared.gate.Gate.TheVariants.{H, Phase, Cz, Cx, Not}
use Rattle.circuit_laws.specs.Peeling.{are_plain}
use Rattle.circuit_graph.specs.Translation.{with_spider, with_phase, with_toggle}

-- g with a gate behind its outputs, where Cx and Not are written out; a new spider gets the id `new`
abbrev pub placed : ℕ → Graph → Gate → Graph
placed new g (H q) = with_spider new q g
placed new g (Phase q k) = with_phase q k g
placed new g (Cz p q) = with_toggle p q g
placed new g other = g

-- the id of the next new spider
abbrev pub next_id : ℕ → Gate → ℕ
next_id new (H q) = new + 1
next_id new other = new

-- the same after gates
abbrev pub ids_after : ℕ → List Gate → ℕ
ids_after new [] = new
ids_after new (gate ∷ gates) = ids_after (next_id new gate) gates

-- g with gates behind it, the first one first; new spiders get the ids from `new` on
abbrev pub grown : ℕ → Graph → List Gate → Graph
grown new g [] = g
grown new g (gate ∷ gates) = grown (next_id new gate) (placed new g gate) gates

-- no vertex has this id
abbrev pub IsFree : ℕ → Graph → Type 0
IsFree new g = member new (ids g.vertices) ≡ false

-- every vertex has an id below this one
abbrev pub AreBelow : ℕ → Graph → Type 0
AreBelow new g = (v : ℕ) → IsVertex g v → v < new

-- g can have gates put behind it: it is well-formed, has n outputs, all plain, and no id from `new` on is taken
pub record IsGrowing (new n : ℕ) (g : Graph) : Type 0 where
  pub well_formed : WellFormed g
  pub outputs : length g.outputs ≡ n
  pub plain : are_plain g.outputs ≡ true
  pub below : AreBelow new g

-- a gate can be put behind g, where a new spider gets the id `new`: g is well-formed, the id is free, the outputs plain
pub record TakesGates (new : ℕ) (g : Graph) : Type 0 where
  pub well_formed : WellFormed g
  pub fresh : IsFree new g
  pub plain : are_plain g.outputs ≡ true

-- all gates are on n qubits
abbrev pub AreOn : ℕ → List Gate → Type 0
AreOn n gates = All (IsOnQubits n) gates

-- no step splits an end
abbrev pub SplitNothing : List Step → Type 0
SplitNothing steps = list_all (λ s. not (is_split s)) steps ≡ true

-- a gate that isn't written out by others
abbrev pub IsBasic : Gate → Type 0
IsBasic (Cx control target) = ⊥
IsBasic (Not q) = ⊥
IsBasic other = Unit {0}

-- the circuit with more gates behind it
abbrev pub followed_by : Circuit → List Gate → Circuit
followed_by c gates = record { qubits = c.qubits; gates = c.gates ++ gates }
