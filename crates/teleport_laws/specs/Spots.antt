-- Where the phase of a gate is held while the graph of its circuit is rewritten.
-- Kissinger and van de Wetering, "Reducing the number of non-Clifford gates in quantum circuits" (Phys. Rev. A 102,
-- 022406, 2020), on phase teleportation: phases that meet in one vertex are one phase.
use Rattle.std.specs.Prelude.{ℕ, Bool, false, if◌then◌else◌, ◌==◌, List, [], ◌∷◌, length}
use Rattle.zx_model.specs.Bits.{xor}
use Rattle.zx_calculus.specs.Graph.{Graph}
use Rattle.zx_calculus.specs.Steps.{Step, Delete, DropLone, FuseInto, FuseTwin, IsRun}
use Rattle.teleport_laws.specs.Shifts.{negates, into_of}

-- `At v`: the vertex v; `Deleted n`: the vertex that a deletion took, n steps before the end; `Dropped`: one that was
-- dropped, whose phase doesn't matter
pub data Holder : Type 0 where
  At Deleted : ℕ → Holder
  Dropped : Holder

-- who holds a phase, and whether negated
pub record Spot : Type 0 where
  pub holder : Holder
  pub negated : Bool

-- who holds the phase of the vertex v after a step, behind which so many are left
abbrev pub holder_after : ℕ → Graph → Step → ℕ → Holder
holder_after left g (Delete u) v = if v == u then Deleted left else At v
holder_after left g (DropLone u) v = if v == u then Dropped else At v
holder_after left g (FuseInto u) v = if v == u then At (into_of g u) else At v
holder_after left g (FuseTwin u w) v = if v == w then At u else At v
holder_after left g other v = At v

abbrev pub spot_after : ℕ → Graph → Step → Holder → Bool → Spot
spot_after left g s (At v) negated =
    record { holder = holder_after left g s v; negated = xor negated (negates g s v) }
spot_after left g s (Deleted n) negated = record { holder = Deleted n; negated = negated }
spot_after left g s Dropped negated = record { holder = Dropped; negated = negated }

abbrev pub moved : ℕ → Graph → Step → Spot → Spot
moved left g s spot = spot_after left g s spot.holder spot.negated

-- the spot after a run of steps
abbrev pub carried : (g : Graph) (steps : List Step) (h : Graph) → IsRun g steps h → Spot → Spot
carried g [] h run spot = spot
carried g (s ∷ steps) h run spot = carried run.0 steps h run.2 (moved (length steps) g s spot)

-- the phase of a vertex, at the beginning
abbrev pub spot_at : ℕ → Spot
spot_at v = record { holder = At v; negated = false }

-- where the phase of gate i ends up, which begins at the vertex `vertex_of i`
abbrev pub ends_up : (g : Graph) (steps : List Step) (h : Graph) → IsRun g steps h → (ℕ → ℕ) → ℕ → Spot
ends_up g steps h run vertex_of i = carried g steps h run (spot_at (vertex_of i))
