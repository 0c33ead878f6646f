-- Lists of gates in which no pair and no triple is left that is nothing or one gate.
-- Nam, Ross, Su, Childs and Maslov, "Automated optimization of large quantum circuits with continuous parameters"
-- (npj Quantum Information 4, 23, 2018), on cancellation of gates that commutation brings together.
use Rattle.std.specs.Prelude.{◌≡◌, ◌==◌, ◌&&◌, ◌||◌, not, ℕ, Bool, false, List, ◌∷◌, ◌++◌, IsTrue}
use Rattle.std.specs.List.{list_all}
use Rattle.zx_model.specs.Phase.{half_turn}
use Rattle.zx_gates.specs.declared.gate.Gate.{Gate}
use Rattle.zx_gates.specs.declared.gate.Gate.TheVariants.{H, Phase, Cz, Cx, Not}
use Rattle.zx_peephole.specs.Commuting.{is_on, commutes}

-- Whether two gates, one right after the other, are nothing or one gate: two H or two NOT on one qubit, two Cz on the
-- same two qubits, two Cx with the same control and target, or two phase gates on one qubit.
abbrev pub cancels_or_merges : Gate → Gate → Bool
cancels_or_merges (H q) (H r) = (q == r)
cancels_or_merges (Phase q j) (Phase r k) = (q == r)
cancels_or_merges (Cz q r) (Cz s t) = ((q == s) && (r == t)) || ((q == t) && (r == s))
cancels_or_merges (Cx control target) (Cx other_control other_target) =
    (control == other_control) && (target == other_target)
cancels_or_merges (Not q) (Not r) = (q == r)
cancels_or_merges first second = false

-- whether a gate on the qubit, between two H, is one gate with them: a half turn or NOT
abbrev pub is_turned : ℕ → Gate → Bool
is_turned q (Phase p k) = (p == q) && (k == half_turn)
is_turned q (Not p) = (p == q)
is_turned q other = false

-- whether a gate isn't on the qubit
abbrev pub is_off : ℕ → Gate → Bool
is_off q gate = not (is_on q gate)

-- No pair is left of which the first commutes with each gate between; and no H, such a gate, and H, all on one qubit,
-- with no other gate on it between.
pub record IsTidy (gates : List Gate) : Type 0 where
  pub no_pair : (before between after : List Gate) (first second : Gate) →
      gates ≡ before ++ first ∷ (between ++ second ∷ after) → IsTrue (cancels_or_merges first second) →
      IsTrue (list_all (commutes first) between) → ⊥
  pub no_triple : (qubit : ℕ) (before left right after : List Gate) (middle : Gate) →
      gates ≡ before ++ H qubit ∷ (left ++ middle ∷ (right ++ H qubit ∷ after)) → IsTrue (is_turned qubit middle) →
      IsTrue (list_all (is_off qubit) left) → IsTrue (list_all (is_off qubit) right) → ⊥
