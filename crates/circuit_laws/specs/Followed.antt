-- Graphs followed by gates, and circuits read off graphs from the outputs backwards.
-- Backens, Miller-Bakewell, de Felice, Lobski and van de Wetering, "There and back again: a circuit
-- extraction tale" (Quantum 5, 421, 2021), on circuit extraction.
use Rattle.std.specs.Prelude.{◌≡◌, ◌≢◌, ℕ, Bool, List, map, length}
use Rattle.zx_model.specs.Number.{Number, zero, mul}
use Rattle.zx_model.specs.Sums.{total, all_labels}
use Rattle.zx_calculus.specs.Graph.{Graph}
use Rattle.zx_calculus.specs.Sum.{graph_sum}
use Rattle.zx_gates.specs.Maps.{acts}
use Rattle.zx_gates.specs.declared.gate.Gate.{Gate}

-- What comes after a graph is a function f of its output bits. Before the graph it is this function of the input
-- bits: over all output bits, the sum of the graph times f.
abbrev pub followed : Graph → (List Bool → Number) → List Bool → Number
followed g f x = total (map (λ y. mul (graph_sum g x y) (f y)) (all_labels (length g.outputs)))

-- g is h followed by the gates, up to the cost: the gates can be peeled off the outputs of g, which leaves h
pub record Peels (g : Graph) (gates : List Gate) (h : Graph) : Type 0 where
  pub cost : Number
  pub nonzero : cost ≢ zero
  pub inputs : length h.inputs ≡ length g.inputs
  pub outputs : length h.outputs ≡ length g.outputs
  pub equal : (f : List Bool → Number) (x : List Bool) → followed g f x ≡ mul cost (followed h (acts gates f) x)

-- the same, and that the cost is c
abbrev pub PeelsAt : Number → Graph → List Gate → Graph → Type 0
PeelsAt c g gates h = (p : Peels g gates h) × (p.cost ≡ c)

-- g is the gates and nothing else, up to the cost
pub record Ends (g : Graph) (gates : List Gate) : Type 0 where
  pub cost : Number
  pub nonzero : cost ≢ zero
  pub equal : (f : List Bool → Number) (x : List Bool) → length x ≡ length g.inputs →
      followed g f x ≡ mul cost (acts gates f x)

-- the same, and that the cost is c
abbrev pub EndsAt : Number → Graph → List Gate → Type 0
EndsAt c g gates = (e : Ends g gates) × (e.cost ≡ c)

-- on n qubits the gates have the map of the others, times d
abbrev pub IsMultiple : Number → ℕ → List Gate → List Gate → Type 0
IsMultiple d n gates others =
    (f : List Bool → Number) (z : List Bool) → length z ≡ n → acts gates f z ≡ mul d (acts others f z)
