-- Places with a vertex and without: how many there are, and that a copy that tells the same has as many.
use Rattle.std.proofs.Common.{◌≡◌, refl, sym, ap, ℕ, suc, ◌+◌, ◌-◌, ◌≤◌, List, [], ◌∷◌, length, Option, Some, None, arith}
use Rattle.std.proofs.lemmas.Bool.{false≢true}
use Rattle.open_graph.specs.declared.slot.Slot.{Slot}
use Rattle.open_graph.specs.Internal.Changes.{SameTold}
use Rattle.open_graph.specs.Internal.Room.{vacant_in}
use Rattle.open_graph.specs.Internal.Slots.{vertices_of}
use Rattle.open_graph.proofs.RoomLemmas.{count-vertices}

pub vacant_copied : (slots copies : List (Option Slot)) → length copies ≡ length slots → SameTold slots copies →
    vacant_in copies ≡ vacant_in slots
vacant_copied [] [] size same = refl
vacant_copied [] (c ∷ copies) size same = absurd (omega (arith, size))
vacant_copied (s ∷ slots) [] size same = absurd (omega (arith, size))
vacant_copied (None ∷ slots) (None ∷ copies) size same =
    ap (λ n. suc n) (vacant_copied slots copies (omega (arith, size)) (λ p. same (suc p)))
vacant_copied (None ∷ slots) (Some c ∷ copies) size same = absurd (false≢true (sym (ap (λ t. t.live) (same 0))))
vacant_copied (Some s ∷ slots) (None ∷ copies) size same = absurd (false≢true (ap (λ t. t.live) (same 0)))
vacant_copied (Some s ∷ slots) (Some c ∷ copies) size same =
    vacant_copied slots copies (omega (arith, size)) (λ p. same (suc p))

vacant_within : (slots : List (Option Slot)) → vacant_in slots ≤ length slots
vacant_within [] = omega arith
vacant_within (None ∷ slots) = let less = vacant_within slots in omega (arith, less)
vacant_within (Some s ∷ slots) = let less = vacant_within slots in omega (arith, less)

-- each place has a vertex or none
pub all_places : (slots : List (Option Slot)) → vacant_in slots + length (vertices_of slots) ≡ length slots
all_places slots = all _ _ _ (count-vertices slots) (vacant_within slots)
  where
    all : (length vacant vertices : ℕ) → length - vacant ≡ vertices → vacant ≤ length → vacant + vertices ≡ length
    all length vacant vertices e le = omega (arith, e, le)
