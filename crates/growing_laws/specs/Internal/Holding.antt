-- Where phases are held by a graph that is reached from another one.
-- Kissinger and van de Wetering, "Reducing the number of non-Clifford gates in quantum circuits" (Phys. Rev. A 102,
-- 022406, 2020), on phase teleportation: phases that meet in one vertex are one phase.
use Rattle.std.specs.Prelude.{ℕ}
use Rattle.zx_calculus.specs.Graph.{Graph, IsVertex}
use Rattle.teleport_laws.specs.Spots.{Holder, At, Deleted, Dropped, Spot, spot_at, carried}
use Rattle.growing_laws.specs.Growth.{Reaches}

-- the holder under another name
abbrev pub named_holder : (ℕ → ℕ) → Holder → Holder
named_holder to (At v) = At (to v)
named_holder to (Deleted n) = Deleted n
named_holder to Dropped = Dropped

abbrev pub named_spot : (ℕ → ℕ) → Spot → Spot
named_spot to spot = record { holder = named_holder to spot.holder; negated = spot.negated }

-- a vertex that holds is one of the graph
abbrev pub LivesIn : Graph → Holder → Type 0
LivesIn g (At v) = IsVertex g v
LivesIn g (Deleted n) = Unit {0}
LivesIn g Dropped = Unit {0}

-- where the phase ends up that begins at the vertex v, by the names that the run gives
abbrev pub run_spot : (g h : Graph) → Reaches g h → ℕ → Spot
run_spot g h r v = carried g r.steps r.graph r.run (spot_at v)

-- the same by the names of h
abbrev pub reached_spot : (g h : Graph) → Reaches g h → ℕ → Spot
reached_spot g h r v = named_spot r.to (run_spot g h r v)
