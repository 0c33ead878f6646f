-- How many places have no vertex, through each change of the places.
use Rattle.std.proofs.Common.{◌≡◌, refl, sym, ap, ℕ, zero, suc, ◌+◌, ◌-◌, ◌<◌, true, false, List, [], ◌∷◌, ◌++◌, length, set, Option, Some, None, is_some, IsSome, slice_index_or, arith}
use Rattle.std.proofs.lemmas.Bool.{false≢true}
use Rattle.open_graph.specs.declared.slot.Slot.{Slot}
use Rattle.open_graph.specs.Internal.Room.{vacant_in}
use Rattle.open_graph.specs.Internal.Slots.{vertices_from, vertices_of}

pub vacant-append : (xs ys : List (Option Slot)) → vacant_in (xs ++ ys) ≡ vacant_in xs + vacant_in ys
vacant-append [] ys = omega arith
vacant-append (None ∷ xs) ys = omega (arith, vacant-append xs ys)
vacant-append (Some s ∷ xs) ys = vacant-append xs ys

vertices-vacant : (first : ℕ) (slots : List (Option Slot)) → length (vertices_from first slots) + vacant_in slots ≡ length slots
vertices-vacant first [] = refl
vertices-vacant first (None ∷ rest) = omega (arith, vertices-vacant (suc first) rest)
vertices-vacant first (Some s ∷ rest) = omega (arith, vertices-vacant (suc first) rest)

-- the others have one
pub count-vertices : (slots : List (Option Slot)) → length slots - vacant_in slots ≡ length (vertices_of slots)
count-vertices slots = omega (arith, vertices-vacant 0 slots)

pub vacant-none : (xs : List (Option Slot)) → ((p : ℕ) → p < length xs → is_some (slice_index_or xs p None) ≡ true) → vacant_in xs ≡ 0
vacant-none [] all = refl
vacant-none (None ∷ xs) all = absurd (false≢true (all 0 (omega arith)))
vacant-none (Some s ∷ xs) all = vacant-none xs (λ p lt. all (suc p) (omega arith))

-- another vertex in the place of one
pub vacant-set : (xs : List (Option Slot)) (p : ℕ) (s : Slot) → IsSome (slice_index_or xs p None) → vacant_in (set xs p (Some s)) ≡ vacant_in xs
vacant-set [] p s there = refl
vacant-set (None ∷ xs) zero s there = absurd (false≢true there)
vacant-set (Some t ∷ xs) zero s there = refl
vacant-set (None ∷ xs) (suc p) s there = ap suc (vacant-set xs p s there)
vacant-set (Some t ∷ xs) (suc p) s there = vacant-set xs p s there

pub vacant-put : (xs : List (Option Slot)) (p : ℕ) (s t : Slot) → slice_index_or xs p None ≡ Some t → vacant_in (set xs p (Some s)) ≡ vacant_in xs
vacant-put xs p s t here = vacant-set xs p s (ap is_some here)

-- a vertex where there is none
pub vacant-filled : (xs : List (Option Slot)) (p : ℕ) (s : Slot) → p < length xs → is_some (slice_index_or xs p None) ≡ false → vacant_in xs ≡ vacant_in (set xs p (Some s)) + 1
vacant-filled [] p s lt none = absurd (omega arith)
vacant-filled (None ∷ xs) zero s lt none = omega arith
vacant-filled (Some t ∷ xs) zero s lt none = absurd (false≢true (sym none))
vacant-filled (None ∷ xs) (suc p) s lt none = omega (arith, vacant-filled xs p s (omega arith) none)
vacant-filled (Some t ∷ xs) (suc p) s lt none = vacant-filled xs p s (omega arith) none

-- none where there is a vertex
pub vacant-emptied : (xs : List (Option Slot)) (p : ℕ) → IsSome (slice_index_or xs p None) → vacant_in (set xs p None) ≡ vacant_in xs + 1
vacant-emptied [] p there = absurd (false≢true there)
vacant-emptied (None ∷ xs) zero there = absurd (false≢true there)
vacant-emptied (Some t ∷ xs) zero there = omega arith
vacant-emptied (None ∷ xs) (suc p) there = omega (arith, vacant-emptied xs p there)
vacant-emptied (Some t ∷ xs) (suc p) there = vacant-emptied xs p there

-- a place more without a vertex
pub place_pushed : (xs : List (Option Slot)) (p : ℕ) → slice_index_or (xs ++ None ∷ []) p None ≡ slice_index_or xs p None
place_pushed [] zero = refl
place_pushed [] (suc p) = refl
place_pushed (x ∷ xs) zero = refl
place_pushed (x ∷ xs) (suc p) = place_pushed xs p
