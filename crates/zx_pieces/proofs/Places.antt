-- Places on more qubits, and gates on them.
use Rattle.std.proofs.Common.{◌≡◌, ◌<◌, ℕ, Bool, true, false, ◌||◌, eqb, List, [], ◌∷◌, ◌++◌, length, get_or, refl, sym, subst}
use Rattle.std.specs.List.{All, AllByRecursion, IsDistinct, list_any}
use Rattle.std.proofs.lemmas.Bool.{both_ways}
use Rattle.std.proofs.lemmas.List.Elements.{All-append, All-cons, All-get_or, All-nil}
use Rattle.std.proofs.lemmas.Map.Keys.{IsDistinct-cons, IsDistinct-head, IsDistinct-tail}
use Rattle.zx_gates.specs.Circuit.{IsGateOn, IsOnQubits}
use Rattle.zx_gates.specs.declared.gate.Gate.{Gate}
use Rattle.piece_laws.specs.Places.{ArePlaces, placed_gate}
use Rattle.piece_laws.proofs.Placements.{placed_gate_on}

-- ---- one place more
both_false : (a b : Bool) → (a || b) ≡ false → (a ≡ false) × (b ≡ false)
both_false false false none = (none, none)
both_false false true none = absurd (both_ways true none refl)
both_false true b none = absurd (both_ways true none refl)

all_more : (P : ℕ → Type 0) (xs : List ℕ) (x : ℕ) → AllByRecursion P xs → P x → AllByRecursion P (xs ++ x ∷ [])
all_more P [] x all more = (more, tt)
all_more P (y ∷ xs) x all more = (all.0, all_more P xs x all.1 more)

distinct_more : (xs : List ℕ) (x : ℕ) → IsDistinct eqb xs → list_any (λ y. eqb y x) xs ≡ false → IsDistinct eqb (xs ++ x ∷ [])
unfolding IsDistinct
distinct_more [] x apart none = (tt, tt)
distinct_more (y ∷ xs) x apart none =
    let parts = both_false (eqb y x) (list_any (λ z. eqb z x) xs) none in
    IsDistinct-cons eqb y (xs ++ x ∷ [])
    (all_more (λ z. eqb y z ≡ false) xs x (IsDistinct-head eqb y xs apart) parts.0)
    (distinct_more xs x (IsDistinct-tail eqb y xs apart) parts.1)

pub places_more : (n : ℕ) (places : List ℕ) (q : ℕ) → ArePlaces n places → list_any (λ p. eqb p q) places ≡ false → q < n → ArePlaces n (places ++ q ∷ [])
places_more n places q are none below = record {
  distinct = distinct_more places q are.distinct none;
  below = All-append (λ p. p < n) places (q ∷ []) are.below (All-cons (λ p. p < n) q [] below (All-nil (λ p. p < n)));
}

-- ---- a gate on more qubits
pub no_places : (n : ℕ) → ArePlaces n []
unfolding IsDistinct
no_places n = record { distinct = tt; below = All-nil (λ p. p < n) }

-- a gate of a small circuit is on the larger one's qubits, where it is put
pub pushed_on : (n : ℕ) (places : List ℕ) (small items : List Gate) (m i : ℕ) (gate made : Gate) (k : ℕ) → ArePlaces n places → m ≡ length places
    → All (IsGateOn m) small → items ≡ small → i < length items → gate ≡ get_or items i gate → made ≡ placed_gate places gate → k ≡ n → IsOnQubits k made
pushed_on n places small items m i gate made k are wide all same within is put on_n =
    subst (λ j. IsOnQubits j made) (sym on_n)
    (subst (IsOnQubits n) (sym put) (placed_gate_on places n are.distinct are.below gate on).0)
  where
    on : IsGateOn (length places) gate
    on =
        subst (IsGateOn (length places)) (sym is)
        (All-get_or (IsGateOn (length places)) items i gate within
        (subst (λ gs. All (IsGateOn (length places)) gs) (sym same) (subst (λ j. All (IsGateOn j) small) wide all)))
