-- A gate on its way to the front of a list.
use Rattle.std.specs.Prelude.{◌≡◌, ◌⊎◌, ◌||◌, ◌+◌, ◌<◌, ◌≤◌, not, ℕ, Bool, false, List, ◌∷◌, ◌++◌, length, IsTrue}
use Rattle.std.specs.List.{list_all}
use Rattle.zx_gates.specs.declared.gate.Gate.{Gate}
use Rattle.zx_gates.specs.declared.gate.Gate.TheVariants.{H}
use Rattle.zx_peephole.specs.Commuting.{commutes}
use Rattle.zx_peephole.specs.Tidy.{cancels_or_merges, is_turned}
use Rattle.zx_peephole.specs.declared.finding.Walk.{Walk}
use Rattle.zx_peephole.specs.Internal.Chains.{is_left, gate_at, IsOn, IsLast, first_qubit, second_qubit}

-- whether an earlier gate stops a gate on its way to the front: they are a pair, or don't commute
abbrev pub stops : Gate → Gate → Bool
stops gate earlier = cancels_or_merges earlier gate || not (commutes earlier gate)

-- whether no gate of the list stops it
abbrev pub is_free : Gate → List Gate → Bool
is_free gate gates = list_all (λ earlier. not (stops gate earlier)) gates

-- the last gate of the list that stops it stands at place i
pub record IsLastStop (gate : Gate) (gates : List Gate) (i : ℕ) : Type 0 where
  pub before : List Gate
  pub stop : Gate
  pub between : List Gate
  pub cut : gates ≡ before ++ stop ∷ between
  pub at : length before ≡ i
  pub stopped : IsTrue (stops gate stop)
  pub free : IsTrue (is_free gate between)

-- ---- its way over places of a list that is being tidied
-- no gate that is left from place m up to place n stops it
abbrev pub IsFreeBetween : List Gate → Gate → ℕ → ℕ → Type 0
IsFreeBetween gates gate m n = (j : ℕ) → m ≤ j → j < n → IsTrue (is_left (gate_at gates j))
    → stops gate (gate_at gates j) ≡ false

-- the last gate before place n that stops it stands at place i
pub record IsStop (gates : List Gate) (gate : Gate) (n i : ℕ) : Type 0 where
  pub before : i < n
  pub left : IsTrue (is_left (gate_at gates i))
  pub stopped : IsTrue (stops gate (gate_at gates i))
  pub free : IsFreeBetween gates gate (i + 1) n

-- the links are those of its qubits to the last gates before the place
pub record IsWalk (gates : List Gate) (gate : Gate) (walk : Walk) : Type 0 where
  pub first : IsLast (IsOn gates (first_qubit gate)) walk.place walk.first
  pub second : IsLast (IsOn gates (second_qubit gate)) walk.place walk.second

-- the links lead to no gate behind place i, and one of them to the gate there
pub record IsNearest (walk : Walk) (i : ℕ) : Type 0 where
  pub first : walk.first ≤ i + 1
  pub second : walk.second ≤ i + 1
  pub one : (walk.first ≡ i + 1) ⊎ (walk.second ≡ i + 1)

-- the gate's qubits are below the number n
pub record HasQubitsBelow (n : ℕ) (gate : Gate) : Type 0 where
  pub first : first_qubit gate < n
  pub second : second_qubit gate < n

-- whether the first is H, and the second a half turn or NOT of its qubit
abbrev pub turns : Gate → Gate → Bool
turns (H q) gate = is_turned q gate
turns other gate = false
