-- What a graph that was simplified while it grew is to the circuit whose gates were put behind it.
-- Kissinger and van de Wetering, "Reducing the number of non-Clifford gates in quantum circuits" (Phys. Rev. A 102,
-- 022406, 2020), on simplification of a circuit's graph.
use Rattle.std.specs.Prelude.{◌≡◌, ◌≤◌, ◌^◌, ℕ, List, length}
use Rattle.zx_model.specs.Scalar.{IsScaled, IsWithin}
use Rattle.zx_model.specs.declared.scalar.Scalar.{Scalar}
use Rattle.zx_calculus.specs.Counts.{odd_phases}
use Rattle.zx_calculus.specs.Graph.{Graph, WellFormed}
use Rattle.zx_calculus.specs.Reduced.{IsReduced}
use Rattle.zx_calculus.specs.Sum.{graph_sum}
use Rattle.gflow_laws.specs.Flow.{Correction, IsFlow}
use Rattle.zx_gates.specs.Circuit.{Circuit}
use Rattle.zx_gates.specs.Maps.{amp}
use Rattle.circuit_graph.specs.Translation.{translated}
use Rattle.growing_laws.specs.Growth.{Reaches}

-- the greatest exponent of the root of two, in size, between a circuit and its reduced graph
abbrev pub most_grown_root2 : ℕ
most_grown_root2 = 2 ^ 54

-- Some run of rewrites leads from the circuit's graph to h, but for the names of its vertices. It is reduced, of which
-- the table is a flow, and has no more odd phases; the circuit's map is exactly s times its sum.
pub record GrowsTo (c : Circuit) (h : Graph) (table : List Correction) (s : Scalar) : Type 0 where
  pub reaches : Reaches (translated c) h
  pub reduced : IsReduced h
  pub well_formed : WellFormed h
  pub flow : IsFlow h table
  pub inputs : length h.inputs ≡ c.qubits
  pub outputs : length h.outputs ≡ c.qubits
  pub odd : odd_phases h ≤ odd_phases (translated c)
  pub scaled : IsScaled c.qubits c.qubits (amp c.gates) s (graph_sum h)
  pub small : IsWithin most_grown_root2 s
