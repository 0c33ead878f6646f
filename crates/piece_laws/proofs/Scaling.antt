-- Lists of gates of which a part is replaced, with the scalar between the maps.
use Rattle.std.proofs.Common.{◌≡◌, ℕ, List, ◌++◌, append_assoc, length, refl, sym, ap, ◌∙◌, subst}
use Rattle.std.specs.List.{All}
use Rattle.zx_model.specs.Number.{mul, root_power}
use Rattle.zx_model.specs.Scalar.{numerator, denominator, IsScaled}
use Rattle.zx_model.specs.declared.scalar.Scalar.{Scalar}
use Rattle.zx_gates.specs.Circuit.{IsGateOn}
use Rattle.zx_gates.specs.Maps.{amp}
use Rattle.zx_gates.specs.declared.gate.Gate.{Gate}
use Rattle.piece_laws.specs.Places.{ArePlaces, placed}
use Rattle.piece_laws.specs.Reordering.{gates_on, IsReordered}
use Rattle.piece_laws.specs.Replacement.{AreScaled}
use Rattle.piece_laws.proofs.Matrices.{replaced_multiples}
use Rattle.piece_laws.proofs.Placements.{placed_multiples}
use Rattle.piece_laws.proofs.Replacements.{All-parts}
use Rattle.piece_laws.proofs.Reorderings.{reordered-append, reordered_map}

-- a part is replaced, and its map is s times that of what replaces it
pub scaled_part : (n : ℕ) (before old new after : List Gate) (s : Scalar) → AreScaled n old s new
    → AreScaled n (before ++ old ++ after) s (before ++ new ++ after)
scaled_part n before old new after s = replaced_multiples n before old new after (denominator s.root2) (mul (numerator s.root2) (root_power s.turn))

-- another order brings a part to the front of what is left
pub front_map : (done left piece rest : List Gate) → IsReordered left (piece ++ rest) → amp (done ++ left) ≡ amp (done ++ piece ++ rest)
front_map done left piece rest same =
    reordered_map (done ++ left) (done ++ piece ++ rest)
    (λ q. reordered-append done done left (piece ++ rest) (λ p. refl) same q ∙ ap (gates_on q) (sym (append_assoc done piece rest)))

-- and it is replaced there
pub scaled_in_front : (n : ℕ) (done left piece rest new : List Gate) (s : Scalar) → AreScaled n piece s new → IsReordered left (piece ++ rest)
    → AreScaled n (done ++ left) s (done ++ new ++ rest)
scaled_in_front n done left piece rest new s e same =
    subst (λ m. IsScaled n n m s (amp (done ++ new ++ rest))) (sym (front_map done left piece rest same)) (scaled_part n done piece new rest s e)

-- small lists on the qubits of a larger circuit
pub scaled_placed : (n : ℕ) (places : List ℕ) (old new : List Gate) (s : Scalar) → ArePlaces n places → All (IsGateOn (length places)) (old ++ new)
    → AreScaled (length places) old s new → AreScaled n (placed places old) s (placed places new)
scaled_placed n places old new s are on =
    let each = All-parts (IsGateOn (length places)) old new on in
    placed_multiples places n are.distinct are.below old new each.0 each.1 (denominator s.root2) (mul (numerator s.root2) (root_power s.turn))
