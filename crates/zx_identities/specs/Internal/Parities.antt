-- Parities of qubits as numbers: the lowest bit says whether 1 is added, and the next ones which qubits are.
use Rattle.std.specs.Prelude.{◌≡◌, ◌<◌, ◌+◌, ◌*◌, ◌/◌, ◌%◌, ◌^◌, ℕ, zero, suc, Bool, true, false, ◌&&◌}
use Rattle.std.specs.Prelude.{◌==◌, if◌then◌else◌, List, [], ◌∷◌, map, get_or, length}
use Rattle.zx_model.specs.Phase.{turn, half_turn}
use Rattle.zx_model.specs.Bits.{xor}
use Rattle.zx_gates.specs.declared.gate.Gate.{Gate}
use Rattle.zx_identities.specs.BasisStates.{moved_by, turned_by}
use Rattle.zx_identities.specs.declared.parities.Term.{Term}

-- the lowest bit
abbrev pub lowest : ℕ → Bool
lowest w = w % 2 == 1

-- the sum modulo 2 of those bits of a list that the bits of a number pick, the lowest one first
abbrev pub picked : ℕ → List Bool → Bool
picked w [] = false
picked w (b ∷ x) = xor (lowest w && b) (picked (w / 2) x)

-- the parity at a basis state
abbrev pub value : ℕ → List Bool → Bool
value w x = picked w (true ∷ x)

-- the basis state that parities on the qubits make of one
abbrev pub state : List ℕ → List Bool → List Bool
state parities x = map (λ w. value w x) parities

-- a phase where a parity is odd
abbrev pub term_phase : (parity phase : ℕ) → List Bool → ℕ
term_phase parity phase x = if value parity x then phase else 0

-- the sum of the phases
abbrev pub phase_of : List Term → List Bool → ℕ
phase_of [] x = 0
phase_of (term ∷ terms) x = term_phase term.parity term.phase x + phase_of terms x

-- the phase of a controlled Z on two parities
abbrev pub controlled_phase : (one other : ℕ) → List Bool → ℕ
controlled_phase one other x = if value one x && value other x then half_turn else 0

-- the parities of so many qubits themselves, from one on
abbrev pub units_from : ℕ → ℕ → List ℕ
units_from zero q = []
units_from (suc n) q = (2 * 2 ^ q) ∷ units_from n (suc q)

-- gates on n qubits move no basis state, and put the phases of these terms there
abbrev pub IsReading : ℕ → List Gate → List Term → Type 0
IsReading n gates terms = (x : List Bool) → length x ≡ n →
    (moved_by gates x ≡ x) × (phase_of terms x % turn ≡ turned_by gates x)

-- each parity has at most so many bits
abbrev pub AreBelow : ℕ → List ℕ → Type 0
AreBelow bits parities = (q : ℕ) → get_or parities q 0 < 2 ^ bits

-- What is left of the gates makes the same of the basis states, of these parities on the qubits, as all do, and puts
-- the same phases there, with those of these terms.
pub record IsRead (n : ℕ) (all left : List Gate) (parities : List ℕ) (terms : List Term) : Type 0 where
  pub len : length parities ≡ n
  pub moves : (x : List Bool) → length x ≡ n → moved_by left (state parities x) ≡ moved_by all x
  pub turns : (x : List Bool) → length x ≡ n →
      (phase_of terms x + turned_by left (state parities x)) % turn ≡ turned_by all x

-- no basis state of n bits is moved
abbrev pub IsUnmoved : ℕ → List Gate → Type 0
IsUnmoved n gates = (x : List Bool) → length x ≡ n → moved_by gates x ≡ x
