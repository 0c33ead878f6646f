-- Gates whose phases are held together, by the numbers of the gates, and the phases that they get: the first of each
-- group gets all, the others none.
-- Kissinger and van de Wetering, "Reducing the number of non-Clifford gates in quantum circuits" (Phys. Rev. A 102,
-- 022406, 2020), on phase teleportation.
use Rattle.std.specs.Prelude.{◌≡◌, ◌<◌, ◌≤◌, ℕ, Bool, true, false, if◌then◌else◌, not, ◌||◌, ◌==◌, ◌%◌, List, [], ◌∷◌}
use Rattle.std.specs.Prelude.{length, filter}
use Rattle.zx_model.specs.Phase.{turn, quarter_turn, is_odd, sum_of_phases, opposite_phase}
use Rattle.zx_model.specs.Bits.{member}
use Rattle.zx_calculus.specs.Graph.{Graph, phase_of, IsVertex, Distinct}
use Rattle.zx_calculus.specs.Counts.{odd_phases}
use Rattle.zx_calculus.specs.StepScalars.{KeepsMap}
use Rattle.zx_calculus.specs.Steps.{Step, IsRun}
use Rattle.teleport_laws.specs.Shifts.{signed, shifted}
use Rattle.teleport_laws.specs.Spots.{Holder, At, Deleted, Dropped, Spot, spot_at, ends_up}

abbrev pub same_holder : Holder → Holder → Bool
same_holder (At v) (At w) = v == w
same_holder (Deleted m) (Deleted n) = m == n
same_holder Dropped Dropped = true
same_holder one other = false

abbrev pub is_dropped : Holder → Bool
is_dropped Dropped = true
is_dropped other = false

-- what a gate of phase k at the spot adds to the phase of the holder
abbrev pub part : Holder → Spot → ℕ → ℕ
part holder spot k = if same_holder spot.holder holder then signed spot.negated k else 0

-- what the gates at these spots add together
abbrev pub held : (ℕ → ℕ) → (ℕ → Spot) → List ℕ → Holder → ℕ
held phase spot [] holder = 0
held phase spot (i ∷ is) holder = sum_of_phases (part holder (spot i) (phase i)) (held phase spot is holder)

-- the first of the gates that the holder holds
abbrev pub first_of : (ℕ → Spot) → List ℕ → Holder → ℕ
first_of spot [] holder = 0
first_of spot (i ∷ is) holder = if same_holder (spot i).holder holder then i else first_of spot is holder

-- the new phase of a gate: the first gate of a group gets the sum that the holder has, with its own sign
abbrev pub teleported : (ℕ → ℕ) → (ℕ → Spot) → List ℕ → ℕ → ℕ
teleported phase spot gates i =
    if is_dropped (spot i).holder || not (i == first_of spot gates (spot i).holder) then 0
    else signed (spot i).negated (held phase spot gates (spot i).holder)

-- what is to be added to the phase of a gate to make it the new one
abbrev pub change : (ℕ → ℕ) → (ℕ → ℕ) → ℕ → ℕ
change old new i = sum_of_phases (new i) (opposite_phase (old i))

-- how many of the gates have an odd phase
abbrev pub odd_among : (ℕ → ℕ) → List ℕ → ℕ
odd_among phase gates = length (filter (λ i. is_odd (phase i)) gates)

-- phases of gates at vertices, summed up by vertex
abbrev pub placed : (ℕ → ℕ) → (ℕ → ℕ) → List ℕ → ℕ → ℕ
placed phase vertex_of gates v = held phase (λ i. spot_at (vertex_of i)) gates (At v)

-- the phases of the vertices are those of the gates there, but for whole quarter turns
abbrev pub IsOfGates : Graph → (ℕ → ℕ) → Type 0
IsOfGates g more = (v : ℕ) → phase_of g v % quarter_turn ≡ more v % quarter_turn

-- the phases add up to nothing at each holder whose phase matters
abbrev pub IsBalanced : (ℕ → ℕ) → (ℕ → Spot) → List ℕ → Type 0
IsBalanced phase spot gates = (holder : Holder) → is_dropped holder ≡ false → held phase spot gates holder ≡ 0

-- gates by their numbers, each with a phase below a turn, at a vertex of the graph
pub record AreGatesOf (g : Graph) (phase vertex_of : ℕ → ℕ) (gates : List ℕ) : Type 0 where
  pub below : (i : ℕ) → phase i < turn
  pub there : (i : ℕ) → member i gates ≡ true → IsVertex g (vertex_of i)

-- with phases added that add up to nothing wherever gates end up together, the run leads to the same end
abbrev pub LeadsToTheSame : (g : Graph) (steps : List Step) (h : Graph) → IsRun g steps h → Type 0
LeadsToTheSame g steps h run = (phase vertex_of : ℕ → ℕ) (gates : List ℕ) → AreGatesOf g phase vertex_of gates →
    IsBalanced phase (ends_up g steps h run vertex_of) gates → IsRun (shifted (placed phase vertex_of gates) g) steps h

-- and so the sums are one, up to a number other than 0
abbrev pub KeepsTheSum : (g : Graph) (steps : List Step) (h : Graph) → IsRun g steps h → Type 0
KeepsTheSum g steps h run = (phase vertex_of : ℕ → ℕ) (gates : List ℕ) → AreGatesOf g phase vertex_of gates →
    IsBalanced phase (ends_up g steps h run vertex_of) gates → KeepsMap (shifted (placed phase vertex_of gates) g) g

-- at most as many of the new phases are odd as of those at the end, where at the beginning the vertices have the phases
-- of the gates, but for whole quarter turns
abbrev pub HasFewOdd : (g : Graph) (steps : List Step) (h : Graph) → IsRun g steps h → Type 0
HasFewOdd g steps h run = (phase vertex_of : ℕ → ℕ) (gates : List ℕ) →
    AreGatesOf g phase vertex_of gates → Distinct gates → IsOfGates g (placed phase vertex_of gates) →
    odd_among (teleported phase (ends_up g steps h run vertex_of) gates) gates ≤ odd_phases h
