-- Diagrams of the ZX-calculus: spiders of two colours, joined by wires that may carry a Hadamard.
-- van de Wetering, "ZX-calculus for the working quantum computer scientist" (arXiv 2012.13966, 2020), on
-- spiders and on ZX-diagrams. A spider's number is its place in the list.
use Rattle.std.specs.Prelude.{ℕ, zero as nought, suc, ◌<◌, List, [], ◌∷◌, length}
use Rattle.std.specs.List.{All}
use Rattle.zx_model.specs.Phase.{turn}
use Rattle.zx_diagram.specs.declared.spider.Spider.{Spider}
use Rattle.zx_diagram.specs.declared.wire.Wire.{Wire}
use Rattle.zx_diagram.specs.declared.wire.Leg.{Leg}

-- bit i of the inputs belongs to the i-th input, and likewise for the outputs
pub record Diagram : Type 0 where
  pub spiders : List Spider
  pub edges : List Wire
  pub inputs : List Leg
  pub outputs : List Leg

abbrev pub diagram_of : List Spider → List Wire → List Leg → List Leg → Diagram
diagram_of spiders edges inputs outputs =
    record { spiders = spiders; edges = edges; inputs = inputs; outputs = outputs }

-- so many numbers in a row, from the first on
abbrev pub numbers_from : ℕ → ℕ → List ℕ
numbers_from first nought = []
numbers_from first (suc count) = first ∷ numbers_from (suc first) count

-- the numbers of the spiders
abbrev pub numbers : Diagram → List ℕ
numbers d = numbers_from 0 (length d.spiders)

-- both ends of an edge are among n spiders
abbrev pub IsEdgeOf : ℕ → Wire → Type 0
IsEdgeOf n edge = (edge.a < n) × (edge.b < n)

-- the spiders that edges and ends name are there, and phases are below a turn
pub record IsDiagram (d : Diagram) : Type 0 where
  pub phases : All (λ s. s.phase < turn) d.spiders
  pub edges : All (IsEdgeOf (length d.spiders)) d.edges
  pub inputs : All (λ leg. leg.spider < length d.spiders) d.inputs
  pub outputs : All (λ leg. leg.spider < length d.spiders) d.outputs
