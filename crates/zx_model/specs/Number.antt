-- The exact numbers that linear maps of Clifford+T circuits with square roots of T are made of: the ring Z[z] of
-- the sixteenth cyclotomic field, where z is the primitive sixteenth root of unity exp(i*pi/8), so z^8 = -1. It
-- is written over Z[w], since z*z = w. See Washington, "Introduction to Cyclotomic Fields" (1997), and Forest, Gosset,
-- Kliuchnikov and McKinnon, "Exact synthesis of single-qubit unitaries over Clifford-cyclotomic gate sets"
-- (J. Math. Phys. 56, 082201, 2015).
use Rattle.std.specs.Prelude.{ℕ, zero as nought, suc, Bool, if◌then◌else◌}
use Rattle.zx_model.specs.Cyclotomic.{Cyclotomic, zero_cyclotomic, one_cyclotomic, eighth_root}
use Rattle.zx_model.specs.Cyclotomic.{add_cyclotomic, neg_cyclotomic, mul_cyclotomic}

-- plain + turned*z
pub record Number : Type 0 where
  pub plain : Cyclotomic
  pub turned : Cyclotomic

abbrev pub zero : Number
zero = record { plain = zero_cyclotomic; turned = zero_cyclotomic }

abbrev pub one : Number
one = record { plain = one_cyclotomic; turned = zero_cyclotomic }

-- z itself
abbrev pub sixteenth_root : Number
sixteenth_root = record { plain = zero_cyclotomic; turned = one_cyclotomic }

unfoldable pub add : Number → Number → Number
add a b = record { plain = add_cyclotomic a.plain b.plain; turned = add_cyclotomic a.turned b.turned }

unfoldable pub neg : Number → Number
neg a = record { plain = neg_cyclotomic a.plain; turned = neg_cyclotomic a.turned }

-- the product of polynomials in z, with z*z = w
unfoldable pub mul : Number → Number → Number
mul a b = record {
  plain =
      add_cyclotomic (mul_cyclotomic a.plain b.plain) (mul_cyclotomic eighth_root (mul_cyclotomic a.turned b.turned));
  turned = add_cyclotomic (mul_cyclotomic a.plain b.turned) (mul_cyclotomic a.turned b.plain);
}

-- z^k
unfoldable pub root_power : ℕ → Number
root_power nought = one
root_power (suc k) = mul sixteenth_root (root_power k)

-- (-1)^b
abbrev pub sign : Bool → Number
sign b = if b then neg one else one
