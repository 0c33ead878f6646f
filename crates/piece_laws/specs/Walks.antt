-- Walks along a list of gates, which take gates on a few qubits into a piece and pass over the others.
use Rattle.std.specs.Prelude.{◌+◌, ℕ, zero, suc, Bool, true, false, ◌&&◌, nat_le, List, [], ◌∷◌, ◌++◌, take, drop}
use Rattle.std.specs.List.{fold, list_any, list_all}
use Rattle.zx_model.specs.Bits.{one_if}
use Rattle.zx_gates.specs.declared.gate.Gate.{Gate}
use Rattle.zx_peephole.specs.Commuting.{is_on, are_apart}

-- how many of the numbers below n pass a test
abbrev pub count_below : ℕ → (ℕ → Bool) → ℕ
count_below zero test = 0
count_below (suc n) test = one_if (test n) + count_below n test

-- how many of the first n qubits have a gate
abbrev pub width : ℕ → List Gate → ℕ
width n gates = count_below n (λ q. list_any (is_on q) gates)

-- the gates that a walk has taken, and those that it has passed over
pub record Walk : Type 0 where
  pub piece : List Gate
  pub passed : List Gate

abbrev pub no_gates : Walk
no_gates = record { piece = []; passed = [] }

-- whether a gate is taken: the piece stays on at most so many of the n qubits, and no gate that was passed over
-- shares a qubit with it
abbrev pub is_taken : (n most : ℕ) → Walk → Gate → Bool
is_taken n most walk gate =
    nat_le (width n (walk.piece ++ gate ∷ [])) most && list_all (are_apart gate) walk.passed

-- one gate more: it goes into the piece, or is passed over
abbrev pub with_gate : Bool → Walk → Gate → Walk
with_gate true walk gate = record { piece = walk.piece ++ gate ∷ []; passed = walk.passed }
with_gate false walk gate = record { piece = walk.piece; passed = walk.passed ++ gate ∷ [] }

abbrev pub one_more : (n most : ℕ) → Walk → Gate → Walk
one_more n most walk gate = with_gate (is_taken n most walk gate) walk gate

-- the walk over the first gates of a list, so many of them
abbrev pub gathered : (n most reach : ℕ) → List Gate → Walk
gathered n most reach gates = fold (one_more n most) no_gates (take reach gates)

-- what follows the piece: the gates that were passed over, then those that the walk didn't reach
abbrev pub behind : (n most reach : ℕ) → List Gate → List Gate
behind n most reach gates = (gathered n most reach gates).passed ++ drop reach gates
