-- What gates other than H make of a basis state, the bits of the qubits: another one, and a phase beside it. See Amy
-- and Mosca, "T-count optimization and Reed-Muller codes" (arXiv 1601.07363).
use Rattle.std.specs.Prelude.{◌≡◌, ◌≤◌, ◌%◌, ℕ, Bool, true, false, not, ◌&&◌, ◌==◌, if◌then◌else◌}
use Rattle.std.specs.Prelude.{List, [], ◌∷◌, length, slice_set}
use Rattle.zx_model.specs.Phase.{half_turn, eighth_turn, sum_of_phases}
use Rattle.zx_model.specs.Bits.{xor, bit}
use Rattle.zx_gates.specs.declared.gate.Gate.{Gate}
use Rattle.zx_gates.specs.declared.gate.Gate.TheVariants.{H, Phase, Cz, Cx, Not}
use Rattle.zx_identities.specs.Polynomials.{weight}

-- the basis state behind a gate
abbrev pub moved : Gate → List Bool → List Bool
moved (H q) x = x
moved (Phase q k) x = x
moved (Cz q r) x = x
moved (Cx control target) x = slice_set x target (xor (bit x control) (bit x target))
moved (Not q) x = slice_set x q (not (bit x q))

-- the phase that it puts there
abbrev pub turned : Gate → List Bool → ℕ
turned (H q) x = 0
turned (Phase q k) x = if bit x q then k else 0
turned (Cz q r) x = if bit x q && bit x r then half_turn else 0
turned (Cx control target) x = 0
turned (Not q) x = 0

-- the same through a list of gates
abbrev pub moved_by : List Gate → List Bool → List Bool
moved_by [] x = x
moved_by (gate ∷ gates) x = moved_by gates (moved gate x)

abbrev pub turned_by : List Gate → List Bool → ℕ
turned_by [] x = 0
turned_by (gate ∷ gates) x = sum_of_phases (turned gate x) (turned_by gates (moved gate x))

-- not H
abbrev pub is_without_h : Gate → Bool
is_without_h (H q) = false
is_without_h other = true

-- neither H nor a phase with a sixteenth turn in it
abbrev pub is_by_eighths : Gate → Bool
is_by_eighths (H q) = false
is_by_eighths (Phase q k) = k % eighth_turn == 0
is_by_eighths other = true

-- two lists make the same basis state of one, and put the same phases there up to one of k
pub record AgreeAt (k : ℕ) (gates others : List Gate) (x : List Bool) : Type 0 where
  pub state : moved_by gates x ≡ moved_by others x
  pub phase : turned_by gates x ≡ sum_of_phases k (turned_by others x)

-- so they do at all basis states of n bits of which at most so many are set
abbrev pub AgreeUpTo : (most n k : ℕ) → List Gate → List Gate → Type 0
AgreeUpTo most n k gates others = (x : List Bool) → length x ≡ n → weight x ≤ most → AgreeAt k gates others x
