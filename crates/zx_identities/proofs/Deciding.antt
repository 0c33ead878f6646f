-- From the walk over basis states of low weight to the map.
use Rattle.std.proofs.Common.{◌≡◌, ◌⊎◌, inl, inr, ℕ, ◌+◌, ◌%◌, ◌<◌, Bool, true, List, [], ◌++◌, length, sym, ◌∙◌, subst, arith, ap}
use Rattle.std.specs.Prelude.{IsTrue}
use Rattle.std.specs.List.{All, list_all}
use Rattle.std.proofs.lemmas.List.{append-nil}
use Rattle.zx_model.specs.Scalar.{one_scalar}
use Rattle.zx_model.specs.Phase.{turn}
use Rattle.zx_gates.specs.Circuit.{IsGateOn, IsCircuit, Circuit}
use Rattle.zx_gates.specs.declared.gate.Gate.{Gate}
use Rattle.piece_laws.specs.Replacement.{AreScaled}
use Rattle.zx_identities.specs.BasisStates.{moved_by, turned_by, is_without_h, is_by_eighths, AgreeAt, AgreeUpTo}
use Rattle.zx_identities.proofs.Agreeing.{eighths_agree, any_agree}
use Rattle.zx_identities.specs.declared.parities.Term.{Term}
use Rattle.zx_identities.specs.declared.packing.Group.{Group}
use Rattle.zx_identities.specs.Internal.Parities.{phase_of, IsReading, IsUnmoved}
use Rattle.zx_identities.specs.Internal.Packing.{total, AreZero}

alone : (P : List Gate → Type 0) (gates : List Gate) → P gates → P (gates ++ [])
alone P gates p = subst P (sym (append-nil gates)) p

-- all phases are whole eighth turns and three bits may be set, or four may
abbrev pub IsEnough : List Gate → ℕ → Type 0
IsEnough gates most = ((list_all is_by_eighths gates ≡ true) × (most ≡ 3)) ⊎ (most ≡ 4)

few_kept : (gates : List Gate) (n most : ℕ) → IsEnough gates most → All (IsGateOn n) gates
    → IsTrue (list_all is_without_h gates) → AgreeUpTo most n 0 gates [] → AreScaled n gates one_scalar []
few_kept gates n most (inl three) on without kept =
    eighths_agree n 0 gates [] (alone (All (IsGateOn n)) gates on) (alone (λ g. IsTrue (list_all is_by_eighths g)) gates three.0)
    (subst (λ m. AgreeUpTo m n 0 gates []) three.1 kept)
few_kept gates n most (inr four) on without kept =
    any_agree n 0 gates [] (alone (All (IsGateOn n)) gates on) (alone (λ g. IsTrue (list_all is_without_h g)) gates without)
    (subst (λ m. AgreeUpTo m n 0 gates []) four kept)

abbrev pub Counts : ℕ → List Group → List Term → Type 0
Counts bits groups terms = (x : List Bool) → length x < bits → total groups 1 x % turn ≡ phase_of terms x % turn

agree : (gates : List Gate) (n most : ℕ) (terms : List Term) (groups : List Group) → IsReading n gates terms → Counts (n + 1) groups terms
    → AreZero groups 1 n most → AgreeUpTo most n 0 gates []
agree gates n most terms groups reading counts zero x l few = record {
  state = (reading x l).0;
  phase = sym (reading x l).1 ∙ sym (counts x (omega arith)) ∙ zero x l few;
}

-- of a copy of the list, and of n by other names
pub is_identity_map : (c : Circuit) (gates : List Gate) (n m most : ℕ) (terms : List Term) (groups : List Group) → IsCircuit c → gates ≡ c.gates → n ≡ c.qubits → m ≡ n
    → IsEnough gates most → IsTrue (list_all is_without_h gates) → IsReading n gates terms → Counts (n + 1) groups terms → AreZero groups 1 m most
    → AreScaled c.qubits c.gates one_scalar []
is_identity_map c gates n m most terms groups circuit same at lanes enough without reading counts zero =
    few_kept c.gates c.qubits most
    (subst (λ g. IsEnough g most) same enough) circuit.on_qubits
    (subst (λ g. IsTrue (list_all is_without_h g)) same without)
    (subst (λ g. AgreeUpTo most c.qubits 0 g []) same
    (subst (λ k. AgreeUpTo most k 0 gates []) at
    (agree gates n most terms groups reading counts (subst (λ k. AreZero groups 1 k most) lanes zero))))

-- and back
pub zero_where_kept : (c : Circuit) (gates : List Gate) (n m most : ℕ) (terms : List Term) (groups : List Group) → gates ≡ c.gates → n ≡ c.qubits → m ≡ n
    → IsReading n gates terms → Counts (n + 1) groups terms → ((x : List Bool) → length x ≡ c.qubits → AgreeAt 0 c.gates [] x) → AreZero groups 1 m most
zero_where_kept c gates n m most terms groups same at lanes reading counts kept x l few =
    counts x (omega (arith, l, lanes)) ∙ (reading x (l ∙ lanes)).1 ∙ ap (λ g. turned_by g x) same ∙ (kept x (l ∙ lanes ∙ at)).phase

pub unmoved : (c : Circuit) (gates : List Gate) (n : ℕ) → gates ≡ c.gates → n ≡ c.qubits → ((x : List Bool) → length x ≡ c.qubits → AgreeAt 0 c.gates [] x) → IsUnmoved n gates
unmoved c gates n same at kept x l = ap (λ g. moved_by g x) same ∙ (kept x (l ∙ at)).state
