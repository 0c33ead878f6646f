-- The ring Z[w]: a + b*w + c*w^2 + d*w^3 with whole a, b, c, d, where w is the primitive eighth root of unity
-- exp(i*pi/4), so w^4 = -1. This is the ring of Giles and Selinger, "Exact synthesis of multiqubit Clifford+T
-- circuits" (Phys. Rev. A 87, 032332, 2013).
use Rattle.std.specs.Prelude.{ℤ, pos, ◌+ℤ◌, ◌-ℤ◌, ◌*ℤ◌, neg_ℤ}

-- c0 + c1*w + c2*w^2 + c3*w^3
pub record Cyclotomic : Type 0 where
  pub c0 : ℤ
  pub c1 : ℤ
  pub c2 : ℤ
  pub c3 : ℤ

abbrev pub zero_cyclotomic : Cyclotomic
zero_cyclotomic = record { c0 = pos 0; c1 = pos 0; c2 = pos 0; c3 = pos 0 }

abbrev pub one_cyclotomic : Cyclotomic
one_cyclotomic = record { c0 = pos 1; c1 = pos 0; c2 = pos 0; c3 = pos 0 }

-- w itself
abbrev pub eighth_root : Cyclotomic
eighth_root = record { c0 = pos 0; c1 = pos 1; c2 = pos 0; c3 = pos 0 }

unfoldable pub add_cyclotomic : Cyclotomic → Cyclotomic → Cyclotomic
add_cyclotomic a b = record { c0 = a.c0 +ℤ b.c0; c1 = a.c1 +ℤ b.c1; c2 = a.c2 +ℤ b.c2; c3 = a.c3 +ℤ b.c3 }

unfoldable pub neg_cyclotomic : Cyclotomic → Cyclotomic
neg_cyclotomic a = record { c0 = neg_ℤ a.c0; c1 = neg_ℤ a.c1; c2 = neg_ℤ a.c2; c3 = neg_ℤ a.c3 }

-- the product of polynomials in w, with w^4 = -1, w^5 = -w, w^6 = -w^2
unfoldable pub mul_cyclotomic : Cyclotomic → Cyclotomic → Cyclotomic
mul_cyclotomic a b = record {
  c0 = ((a.c0 *ℤ b.c0) -ℤ (a.c1 *ℤ b.c3)) -ℤ ((a.c2 *ℤ b.c2) +ℤ (a.c3 *ℤ b.c1));
  c1 = ((a.c0 *ℤ b.c1) +ℤ (a.c1 *ℤ b.c0)) -ℤ ((a.c2 *ℤ b.c3) +ℤ (a.c3 *ℤ b.c2));
  c2 = ((a.c0 *ℤ b.c2) +ℤ (a.c1 *ℤ b.c1)) +ℤ ((a.c2 *ℤ b.c0) -ℤ (a.c3 *ℤ b.c3));
  c3 = ((a.c0 *ℤ b.c3) +ℤ (a.c1 *ℤ b.c2)) +ℤ ((a.c2 *ℤ b.c1) +ℤ (a.c3 *ℤ b.c0));
}
