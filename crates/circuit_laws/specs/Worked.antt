-- Small graphs and their gates.
use Rattle.std.specs.Prelude.{ℕ, [], ◌∷◌}
use Rattle.zx_calculus.specs.Graph.{XY, YZ, Graph, plain}
use Rattle.zx_calculus.specs.Worked.{vertex, edge, graph}
use Rattle.circuit_laws.specs.Peeling.{marked}

-- two spiders, both inputs and the second output after a Hadamard, and an edge: a Bell pair is made of two bits
abbrev pub bell_pair : Graph
bell_pair =
    graph (vertex 0 XY 0 ∷ vertex 1 XY 0 ∷ []) (edge 0 1 ∷ [])
    (marked 0 ∷ marked 1 ∷ []) (plain 0 ∷ marked 1 ∷ [])

-- the same without the mark at the output
abbrev pub bell_unmarked : Graph
bell_unmarked =
    graph (vertex 0 XY 0 ∷ vertex 1 XY 0 ∷ []) (edge 0 1 ∷ [])
    (marked 0 ∷ marked 1 ∷ []) (plain 0 ∷ plain 1 ∷ [])

-- and without the edge
abbrev pub bell_wires : Graph
bell_wires = graph (vertex 0 XY 0 ∷ vertex 1 XY 0 ∷ []) [] (marked 0 ∷ marked 1 ∷ []) (plain 0 ∷ plain 1 ∷ [])

-- a gadget on two wires
abbrev pub wires_with_gadget : ℕ → Graph
wires_with_gadget k =
    graph (vertex 0 XY 0 ∷ vertex 1 XY 0 ∷ vertex 2 YZ k ∷ []) (edge 0 2 ∷ edge 1 2 ∷ [])
    (plain 0 ∷ plain 1 ∷ []) (plain 0 ∷ plain 1 ∷ [])

abbrev pub two_wires : Graph
two_wires = graph (vertex 0 XY 0 ∷ vertex 1 XY 0 ∷ []) [] (plain 0 ∷ plain 1 ∷ []) (plain 0 ∷ plain 1 ∷ [])

-- a wire, and a Hadamard gate beside it
abbrev pub before_addition : Graph
before_addition =
    graph (vertex 0 XY 0 ∷ vertex 1 XY 0 ∷ vertex 2 XY 0 ∷ []) (edge 1 2 ∷ [])
    (plain 0 ∷ plain 2 ∷ []) (plain 0 ∷ plain 1 ∷ [])

-- the row of the second output added to that of the first
abbrev pub after_addition : Graph
after_addition =
    graph (vertex 0 XY 0 ∷ vertex 1 XY 0 ∷ vertex 2 XY 0 ∷ []) (edge 0 2 ∷ edge 1 2 ∷ [])
    (plain 0 ∷ plain 2 ∷ []) (plain 0 ∷ plain 1 ∷ [])

-- two wires that cross
abbrev pub crossing : Graph
crossing = graph (vertex 0 XY 0 ∷ vertex 1 XY 0 ∷ []) [] (plain 0 ∷ plain 1 ∷ []) (plain 1 ∷ plain 0 ∷ [])

-- a Hadamard gate and a wire, and a gadget on the input of the one and on the other
abbrev pub linked_gadget : ℕ → Graph
linked_gadget k =
    graph (vertex 0 XY 0 ∷ vertex 1 XY 0 ∷ vertex 2 XY 0 ∷ vertex 3 YZ k ∷ []) (edge 0 2 ∷ edge 1 3 ∷ edge 2 3 ∷ [])
    (plain 2 ∷ plain 1 ∷ []) (plain 0 ∷ plain 1 ∷ [])

-- without the gadget
abbrev pub unlinked : Graph
unlinked =
    graph (vertex 0 XY 0 ∷ vertex 1 XY 0 ∷ vertex 2 XY 0 ∷ []) (edge 0 2 ∷ [])
    (plain 2 ∷ plain 1 ∷ []) (plain 0 ∷ plain 1 ∷ [])

-- the Hadamard gate peeled off as well
abbrev pub advanced_wires : Graph
advanced_wires = graph (vertex 1 XY 0 ∷ vertex 2 XY 0 ∷ []) [] (plain 2 ∷ plain 1 ∷ []) (plain 2 ∷ plain 1 ∷ [])
