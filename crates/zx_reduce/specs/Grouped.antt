-- The phases that the gates of a circuit get where those are put together that end up together.
-- Kissinger and van de Wetering, "Reducing the number of non-Clifford gates in quantum circuits" (Phys. Rev. A 102,
-- 022406, 2020), on phase teleportation.
use Rattle.std.specs.Prelude.{◌≡◌, ℕ, true, List}
use Rattle.zx_model.specs.Bits.{member}
use Rattle.zx_calculus.specs.Graph.{Graph}
use Rattle.zx_calculus.specs.Reduced.{IsReduced}
use Rattle.zx_calculus.specs.Steps.{Step, IsRun}
use Rattle.zx_gates.specs.Circuit.{Circuit}
use Rattle.circuit_graph.specs.Translation.{translated}
use Rattle.teleport_laws.specs.Groups.{teleported}
use Rattle.teleport_circuits.specs.Teleporting.{phase_at, odd_gates, spots_of}
use Rattle.phase_groups.specs.Groups.{Phases, phase_of_gate}

-- Some run of rewrites leads from the circuit's graph to a reduced one. Each gate of an odd phase has the phase that it
-- gets where the phases are put together that this run brings together.
pub record GroupsTo (c : Circuit) (p : Phases) : Type 0 where
  pub steps : List Step
  pub graph : Graph
  pub run : IsRun (translated c) steps graph
  pub reduced : IsReduced graph
  pub phases : (i : ℕ) → member i (odd_gates c) ≡ true → phase_of_gate p i
      ≡ teleported (phase_at c) (spots_of c steps graph run) (odd_gates c) i
