-- Powers of the root of two times powers of z: the scalars by which rewriting changes linear maps.
-- Each power of the root of two, also with a negative exponent, is a fraction of two exact numbers.
use Rattle.std.specs.Prelude.{◌≡◌, ◌≤◌, ℕ, zero as nought, suc, ◌^◌, ℤ, pos, negsuc, ◌+ℤ◌, ◌-ℤ◌, nat_abs, Bool, List}
use Rattle.std.specs.Prelude.{length}
use Rattle.zx_model.specs.Phase.{sum_of_phases, opposite_phase}
use Rattle.zx_model.specs.Number.{Number, one, mul, root_power}
use Rattle.zx_model.specs.Constants.{root_of_two}
use Rattle.zx_model.specs.declared.scalar.Scalar.{Scalar}

-- r^k, where r is the root of two
abbrev pub root_of_two_power : ℕ → Number
root_of_two_power nought = one
root_of_two_power (suc k) = mul root_of_two (root_of_two_power k)

-- r^k is its numerator over its denominator
abbrev pub numerator : ℤ → Number
numerator (pos k) = root_of_two_power k
numerator (negsuc k) = one

abbrev pub denominator : ℤ → Number
denominator (pos k) = one
denominator (negsuc k) = root_of_two_power (suc k)

-- f is s times g, two matrices as functions of the bits x of a column (n of them) and y of a row (m of them)
abbrev pub IsScaled : (n m : ℕ) → (List Bool → List Bool → Number) → Scalar → (List Bool → List Bool → Number) → Type 0
IsScaled n m f s g = (x y : List Bool) → length x ≡ n → length y ≡ m →
    mul (denominator s.root2) (f x y) ≡ mul (mul (numerator s.root2) (root_power s.turn)) (g x y)

abbrev pub one_scalar : Scalar
one_scalar = record { root2 = pos 0; turn = 0 }

abbrev pub product_of_scalars : Scalar → Scalar → Scalar
product_of_scalars s t = record { root2 = s.root2 +ℤ t.root2; turn = sum_of_phases s.turn t.turn }

abbrev pub quotient_of_scalars : Scalar → Scalar → Scalar
quotient_of_scalars s t =
    record { root2 = s.root2 -ℤ t.root2; turn = sum_of_phases s.turn (opposite_phase t.turn) }

-- the greatest exponent of the root of two, in size, for which products and quotients are told
abbrev pub most_root2 : ℕ
most_root2 = 2 ^ 62

-- the exponent of the root of two is at most so large in size
abbrev pub IsWithin : ℕ → Scalar → Type 0
IsWithin k s = nat_abs s.root2 ≤ k
