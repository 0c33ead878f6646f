-- Marks of the Cz that are kept: for each qubit a row of words of 128 bits, with a bit for each other qubit.
use Rattle.std.specs.Prelude.{◌≡◌, ◌==◌, ◌&&◌, ◌/◌, ◌%◌, ◌<◌, ◌++◌, not, ℕ, Bool, false, List, [], ◌∷◌, slice_index_or}
use Rattle.std.specs.Prelude.{IsTrue}
use Rattle.std.specs.List.{list_all}
use Rattle.std.specs.Int.{bit_at}
use Rattle.zx_gates.specs.declared.gate.Gate.{Gate}
use Rattle.zx_gates.specs.declared.gate.Gate.TheVariants.{H, Cz, Cx, Not}
use Rattle.zx_gates.specs.Circuit.{most_qubits}
use Rattle.zx_peephole.specs.Tidy.{cancels_or_merges}

-- whether a gate is H or NOT on the qubit, or a Cx of this target: no Cz on the qubit passes it
abbrev pub bars : ℕ → Gate → Bool
bars q (H p) = (p == q)
bars q (Not p) = (p == q)
bars q (Cx control target) = (target == q)
bars q gate = false

abbrev pub is_open : ℕ → Gate → Bool
is_open q gate = not (bars q gate)

-- whether a row has the bit of qubit r
abbrev pub has_bit : List ℕ → ℕ → Bool
has_bit row r = (bit_at (slice_index_or row (r / 128) 0) (r % 128) == 1)

-- whether the row of qubit q has the mark of qubit r
abbrev pub has_mark : List (List ℕ) → ℕ → ℕ → Bool
has_mark marks q r = has_bit (slice_index_or marks q []) r

-- each Cz of the list has its marks, that on a qubit unless a gate behind it bars the qubit
pub record IsMarked (marks : List (List ℕ)) (gates : List Gate) : Type 0 where
  pub marked : (q r : ℕ) (before between : List Gate) (first : Gate) → r < most_qubits
      → gates ≡ before ++ first ∷ between → IsTrue (cancels_or_merges first (Cz q r)) →
      IsTrue (list_all (is_open q) between)
      → IsTrue (has_mark marks q r)

-- whether a gate is a Cz that lacks one of its marks
abbrev pub meets_none : List (List ℕ) → Gate → Bool
meets_none marks (Cz q r) = not (has_mark marks q r && has_mark marks r q)
meets_none marks gate = false

-- ---- changes of them
-- for the list with the gate behind it
pub record IsMarkedBehind (old new : List (List ℕ)) (gate : Gate) : Type 0 where
  pub stays : (q r : ℕ) → bars q gate ≡ false → IsTrue (has_mark old q r) → IsTrue (has_mark new q r)
  pub comes : (q r : ℕ) → IsTrue (cancels_or_merges gate (Cz q r)) → IsTrue (has_mark new q r)

-- for the list without the gate
pub record IsMarkedWithout (old new : List (List ℕ)) (gate : Gate) : Type 0 where
  pub stays : (q r : ℕ) → r < most_qubits → IsTrue (has_mark old q r) → IsTrue (has_mark new q r)
  pub opens : (q r : ℕ) → r < most_qubits → IsTrue (bars q gate) → IsTrue (has_mark new q r)
