-- Gates that are the identity, between others and their inverse.
use Rattle.std.proofs.Common.{◌≡◌, ◌*◌, ℕ, pos, ◌+ℤ◌, List, [], ◌++◌, refl, sym, ap, ◌∙◌, subst, arith}
use borrow.Author.Differences.{ints}
use Rattle.std.specs.List.{All, count_by}
use Rattle.std.proofs.lemmas.List.{append-nil}
use Rattle.zx_model.specs.Scalar.{one_scalar, product_of_scalars}
use Rattle.zx_model.specs.declared.scalar.Scalar.{Scalar}
use Rattle.zx_model.proofs.Factors.{scaled_renamed}
use Rattle.zx_model.proofs.Scalars.{scaled_trans}
use Rattle.zx_gates.specs.Circuit.{IsGateOn}
use Rattle.zx_gates.specs.Counting.{is_h}
use Rattle.zx_gates.specs.Maps.{amp}
use Rattle.zx_gates.specs.declared.gate.Gate.{Gate}
use Rattle.piece_laws.specs.Replacement.{AreScaled}
use Rattle.piece_laws.proofs.Scaling.{scaled_part}
use Rattle.zx_identities.specs.Inverse.{inverse_of, undone_scalar}
use Rattle.zx_identities.proofs.OneMap.{undone_scaled}

framed : (n : ℕ) (frame inner : List Gate) (s : Scalar) → All (IsGateOn n) frame → AreScaled n inner s []
    → AreScaled n (frame ++ inner ++ inverse_of frame) (product_of_scalars s (undone_scalar frame)) []
framed n frame inner s on e =
    scaled_trans n n (amp (frame ++ inner ++ inverse_of frame)) (amp (frame ++ inverse_of frame)) (amp []) s (undone_scalar frame)
    (subst (λ gates. AreScaled n (frame ++ inner ++ inverse_of frame) s (gates ++ inverse_of frame)) (append-nil frame)
    (scaled_part n frame inner [] (inverse_of frame) s e))
    (undone_scaled n frame on)

pub put_in_scaled : (n : ℕ) (before frame inner after : List Gate) (s : Scalar) → All (IsGateOn n) frame → AreScaled n inner s []
    → AreScaled n (before ++ (frame ++ inner ++ inverse_of frame) ++ after) (product_of_scalars s (undone_scalar frame)) (before ++ after)
put_in_scaled n before frame inner after s on e =
    subst (λ gates. AreScaled n (before ++ (frame ++ inner ++ inverse_of frame) ++ after) (product_of_scalars s (undone_scalar frame)) (gates ++ after))
    (append-nil before)
    (scaled_part n before (frame ++ inner ++ inverse_of frame) [] after (product_of_scalars s (undone_scalar frame)) (framed n frame inner s on e))

pub put_in : (n : ℕ) (before frame inner after : List Gate) → All (IsGateOn n) frame → AreScaled n inner one_scalar []
    → AreScaled n (before ++ (frame ++ inner ++ inverse_of frame) ++ after) (undone_scalar frame) (before ++ after)
put_in n before frame inner after on e =
    scaled_renamed n n (amp (before ++ (frame ++ inner ++ inverse_of frame) ++ after)) (amp (before ++ after))
    (product_of_scalars one_scalar (undone_scalar frame)) (undone_scalar frame) (same (2 * count_by is_h frame)) refl
    (put_in_scaled n before frame inner after one_scalar on e)
  where
    same : (k : ℕ) → pos 0 +ℤ pos k ≡ pos k
    same k = omega (arith, ints)
