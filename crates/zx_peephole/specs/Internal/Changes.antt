-- What each change of a list of gates keeps, and what it never raises.
use Rattle.std.specs.Prelude.{◌≡◌, ◌+◌, ◌*◌, ◌<◌, ◌≤◌, ℕ, Bool, List, ◌∷◌, ◌++◌, length}
use Rattle.std.specs.Prelude.{count_by, IsTrue}
use Rattle.std.specs.List.{list_all}
use Rattle.zx_model.specs.Number.{Number, mul}
use Rattle.zx_gates.specs.declared.gate.Gate.{Gate}
use Rattle.zx_gates.specs.declared.gate.Gate.TheVariants.{H}
use Rattle.zx_gates.specs.Circuit.{gate_odd_phases}
use Rattle.zx_gates.specs.Counting.{is_two_qubit}
use Rattle.zx_gates.specs.Maps.{acts}
use Rattle.zx_peephole.specs.Commuting.{commutes}
use Rattle.zx_peephole.specs.Tidy.{cancels_or_merges, is_turned, is_off, IsTidy}
use Rattle.zx_peephole.specs.declared.finding.Change.{Change}
use Rattle.zx_peephole.specs.declared.finding.Change.TheVariants.{Pair, Triple}
use Rattle.zx_peephole.specs.declared.chains.Chains.{Chains}
use Rattle.zx_peephole.specs.Internal.Chains.{kept, left_before, next_of, all_left, IsLeftAt}
use Rattle.zx_model.specs.Internal.Powers.{power_of_two}

-- ---- what a gate behind a list makes with gates of it
-- a pair with the gate at place i
pub record EndsPair (front : List Gate) (gate : Gate) (i : ℕ) : Type 0 where
  pub before : List Gate
  pub first : Gate
  pub between : List Gate
  pub cut : front ≡ before ++ first ∷ between
  pub at : length before ≡ i
  pub merge : IsTrue (cancels_or_merges first gate)
  pub commute : IsTrue (list_all (commutes first) between)

-- a triple with the gates at places i and j
pub record EndsTriple (front : List Gate) (gate : Gate) (i j : ℕ) : Type 0 where
  pub qubit : ℕ
  pub before : List Gate
  pub left : List Gate
  pub middle : Gate
  pub right : List Gate
  pub is : gate ≡ H qubit
  pub cut : front ≡ before ++ H qubit ∷ (left ++ middle ∷ right)
  pub at_first : length before ≡ i
  pub at_middle : i + 1 + length left ≡ j
  pub turned : IsTrue (is_turned qubit middle)
  pub left_off : IsTrue (list_all (is_off qubit) left)
  pub right_off : IsTrue (list_all (is_off qubit) right)

-- such a pair or triple with the next gate, by the places of the others
pub record IsPairAt (w : Chains) (i : ℕ) : Type 0 where
  pub first : IsLeftAt w i
  pub pair : EndsPair (kept w) (next_of w) (left_before w i)

pub record IsTripleAt (w : Chains) (i j : ℕ) : Type 0 where
  pub order : i < j
  pub first : IsLeftAt w i
  pub middle : IsLeftAt w j
  pub triple : EndsTriple (kept w) (next_of w) (left_before w i) (left_before w j)

abbrev pub IsChange : Chains → Change → Type 0
IsChange w (Pair first) = IsPairAt w first
IsChange w (Triple first middle) = IsTripleAt w first middle

-- ---- lists that change
-- on n qubits the old gates have the map of the new ones times this power of two, for each factor of which two gates
-- went; and there are no more of any kind
pub record Shortens (n power : ℕ) (old new : List Gate) : Type 0 where
  pub map : (f : List Bool → Number) (x : List Bool) → length x ≡ n
      → acts old f x ≡ mul (power_of_two power) (acts new f x)
  pub no_longer : length new + 2 * power ≤ length old
  pub odd : gate_odd_phases new ≤ gate_odd_phases old
  pub two_qubit : count_by is_two_qubit new ≤ count_by is_two_qubit old

-- a step of the cleanup, with its power of two: what is kept stays tidy, and fewer gates are left to read or to keep
pub record IsAdvance (old : Chains) (power : ℕ) (new : Chains) : Type 0 where
  pub qubits : new.qubits ≡ old.qubits
  pub shortened : Shortens old.qubits power (all_left old) (all_left new)
  pub tidy : IsTidy (kept old) → IsTidy (kept new)
  pub as_long : length new.gates.items ≡ length old.gates.items
  pub closer : length (kept new) + 2 * old.next < length (kept old) + 2 * new.next
