-- Phase polynomials that are 0 at all basis states of low weight, and not at all.
use Rattle.std.proofs.Common.{◌≡◌, ◌≤◌, Bool, true, false, List, [], ◌∷◌, length, refl, arith}
use Rattle.zx_identities.specs.Polynomials.{phase_at, weight}
use Rattle.zx_identities.specs.WorkedPolynomials.{twice_controlled, thrice_controlled}

three_bits : (a b c : Bool) → weight (a ∷ b ∷ c ∷ []) ≤ 2 → phase_at twice_controlled (a ∷ b ∷ c ∷ []) ≡ 0
three_bits true true true few = absurd (omega arith)
three_bits true true false few = refl
three_bits true false true few = refl
three_bits true false false few = refl
three_bits false true true few = refl
three_bits false true false few = refl
three_bits false false true few = refl
three_bits false false false few = refl

four_bits : (a b c d : Bool) → weight (a ∷ b ∷ c ∷ d ∷ []) ≤ 3 → phase_at thrice_controlled (a ∷ b ∷ c ∷ d ∷ []) ≡ 0
four_bits true true true true few = absurd (omega arith)
four_bits true true true false few = refl
four_bits true true false true few = refl
four_bits true true false false few = refl
four_bits true false true true few = refl
four_bits true false true false few = refl
four_bits true false false true few = refl
four_bits true false false false few = refl
four_bits false true true true few = refl
four_bits false true true false few = refl
four_bits false true false true few = refl
four_bits false true false false few = refl
four_bits false false true true few = refl
four_bits false false true false few = refl
four_bits false false false true few = refl
four_bits false false false false few = refl

pub two_bits_set : (x : List Bool) → length x ≡ 3 → weight x ≤ 2 → phase_at twice_controlled x ≡ 0
two_bits_set [] l few = absurd (omega arith)
two_bits_set (a ∷ []) l few = absurd (omega arith)
two_bits_set (a ∷ b ∷ []) l few = absurd (omega arith)
two_bits_set (a ∷ b ∷ c ∷ []) l few = three_bits a b c few
two_bits_set (a ∷ b ∷ c ∷ d ∷ x) l few = absurd (omega arith)

pub three_bits_set : (x : List Bool) → length x ≡ 4 → weight x ≤ 3 → phase_at thrice_controlled x ≡ 0
three_bits_set [] l few = absurd (omega arith)
three_bits_set (a ∷ []) l few = absurd (omega arith)
three_bits_set (a ∷ b ∷ []) l few = absurd (omega arith)
three_bits_set (a ∷ b ∷ c ∷ []) l few = absurd (omega arith)
three_bits_set (a ∷ b ∷ c ∷ d ∷ []) l few = four_bits a b c d few
three_bits_set (a ∷ b ∷ c ∷ d ∷ e ∷ x) l few = absurd (omega arith)
