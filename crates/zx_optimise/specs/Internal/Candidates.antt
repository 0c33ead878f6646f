-- Which candidate for the best circuit is taken.
use Rattle.std.specs.Prelude.{◌≡◌, ◌<◌, ◌≤◌, ◌==◌, ◌^◌, ◌⊎◌, ℕ, nat_lt, Bool, if◌then◌else◌}
use Rattle.zx_gates.specs.declared.scaled_circuit.ScaledCircuit.{ScaledCircuit}
use Rattle.zx_gates.specs.declared.tally.Counts.{Counts}
use Rattle.zx_gates.specs.Circuit.{Circuit}
use Rattle.zx_gates.specs.Passes.{Preserves}
use Rattle.zx_peephole.specs.Tidy.{IsTidy}
use Rattle.zx_optimise.specs.Optimising.{counts_of, IsCleaned, CostsNoMore, Optimises, Teleports}

-- whether these are more, by odd phases, then by gates on two qubits, then by all gates
abbrev pub is_dearer : Counts → Counts → Bool
is_dearer a b =
    if a.odd == b.odd
    then (if a.two_qubit == b.two_qubit then nat_lt b.total a.total else nat_lt b.two_qubit a.two_qubit)
    else nat_lt b.odd a.odd

-- one circuit is no dearer than another
abbrev pub CostsNoMoreThan : Circuit → Circuit → Type 0
CostsNoMoreThan a b = CostsNoMore (counts_of a.gates) (counts_of b.gates)

-- the greatest exponent of the root of two in the scalar of a candidate of which no pieces are replaced yet
abbrev pub most_whole_root2 : ℕ
most_whole_root2 = 2 ^ 57

-- what may be taken in the place of a circuit, where it is within the bound; the exponent of the root of two in its
-- scalar is at most k
pub record IsCandidate (k : ℕ) (read : Circuit) (made : ScaledCircuit) : Type 0 where
  pub kept : Preserves k read made.gates made.scalar
  pub tidy : IsTidy made.gates.gates

-- what may be written for a circuit
abbrev pub Offers : ℕ → Circuit → ScaledCircuit → Type 0
Offers k read made = Optimises k read made.gates made.scalar

-- fewer odd phases; or as many of them and fewer gates on two qubits; or as many of both and fewer gates in all
abbrev pub IsCheaper : Counts → Counts → Type 0
IsCheaper a b =
    (a.odd < b.odd) ⊎ ((a.odd ≡ b.odd)
    × ((a.two_qubit < b.two_qubit) ⊎ ((a.two_qubit ≡ b.two_qubit) × (a.total < b.total))))

-- the one candidate is the other, or was taken in its place since it is cheaper
abbrev pub IsTakenOver : ScaledCircuit → ScaledCircuit → Type 0
IsTakenOver best made = (made ≡ best) ⊎ IsCheaper (counts_of made.gates.gates) (counts_of best.gates.gates)

-- a cleanup of a circuit whose phases alone are changed
pub record IsTeleportedCleanup (read made : Circuit) : Type 0 where
  pub teleported : Circuit
  pub teleports : Teleports read teleported
  pub cleanup : IsCleaned teleported made
