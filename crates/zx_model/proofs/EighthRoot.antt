-- No fraction of Z[w] has the square w. If A*A = w*(B*B), let s be the automorphism that takes w to -w, and let
-- P = A*s(A) and Q = B*s(B), which lie in Z[i]. The equation times its image is P*P = -i*(Q*Q). With P = a + b*i and
-- Q = c + d*i, then 2*a*a = (c+d)*(c+d) and 2*b*b = (c-d)*(c-d), so that P is zero, since 2 is no square.
use Rattle.std.proofs.Common.{◌≡◌, ◌≢◌, ℕ, suc, ◌+◌, ◌*◌, inl, inr, ℤ, pos, ◌+ℤ◌, ◌-ℤ◌, ◌*ℤ◌, neg_ℤ, nat_abs, sym, ◌∙◌, ap, ap₂, arith, refl}
use borrow.Author.Differences.{ints, same_out}
use lib.IntN.{neg_ℤ-neg_ℤ, zero-*ℤ}
use Rattle.zx_model.specs.Cyclotomic.{Cyclotomic, zero_cyclotomic, eighth_root, mul_cyclotomic}
use Rattle.zx_model.proofs.Whole.{units, neg-mul, one-mul, expand as expand_whole}
use Rattle.zx_model.proofs.CyclotomicRing.{same, sorted_cyclotomic, zero-mul}
use Rattle.zx_model.proofs.CyclotomicDomain.{nat_abs-zero, square-zero, root_of_double, square_is, is_zero_or_not, zero_factor, square_root-zero}

-- ---- whole numbers
-- numbers with equal squares are equal
equal_roots : (m n : ℕ) → m * m ≡ n * n → m ≡ n
equal_roots m n e = grind arith

equal_whole_roots : (m n : ℕ) → pos m *ℤ pos m ≡ pos n *ℤ pos n → pos m ≡ pos n
equal_whole_roots m n e = ap pos (equal_roots m n (ap nat_abs e))

-- the norm of a + b*i squared is that of its square
square_norm : (a b : ℤ) → (a *ℤ a +ℤ b *ℤ b) *ℤ (a *ℤ a +ℤ b *ℤ b) ≡ (a *ℤ a -ℤ b *ℤ b) *ℤ (a *ℤ a -ℤ b *ℤ b) +ℤ (a *ℤ b +ℤ b *ℤ a) *ℤ (a *ℤ b +ℤ b *ℤ a)
square_norm a b = simp expand_whole (omega (arith, ints))

turned_norm : (c d : ℤ) → (c *ℤ d +ℤ d *ℤ c) *ℤ (c *ℤ d +ℤ d *ℤ c) +ℤ (d *ℤ d -ℤ c *ℤ c) *ℤ (d *ℤ d -ℤ c *ℤ c) ≡ (c *ℤ c +ℤ d *ℤ d) *ℤ (c *ℤ c +ℤ d *ℤ d)
turned_norm c d = simp expand_whole (omega (arith, ints))

squares : (a b : ℤ) → a *ℤ a +ℤ b *ℤ b ≡ pos (nat_abs a * nat_abs a + nat_abs b * nat_abs b)
squares a b = simp square_is

-- sums of two squares whose squares are equal are equal
equal_norms : (a b c d : ℤ) → (a *ℤ a +ℤ b *ℤ b) *ℤ (a *ℤ a +ℤ b *ℤ b) ≡ (c *ℤ c +ℤ d *ℤ d) *ℤ (c *ℤ c +ℤ d *ℤ d) → a *ℤ a +ℤ b *ℤ b ≡ c *ℤ c +ℤ d *ℤ d
equal_norms a b c d e =
    squares a b ∙ equal_whole_roots _ _ (sym (ap (λ x. x *ℤ x) (squares a b)) ∙ e ∙ ap (λ x. x *ℤ x) (squares c d)) ∙ sym (squares c d)

-- twice a square is a square only where both are zero
double_square : (a s : ℤ) → a *ℤ a +ℤ a *ℤ a ≡ s *ℤ s → a ≡ pos 0
double_square a s e =
    let p : ℕ = nat_abs s in
    let q : ℕ = nat_abs a in
    let double : p * p ≡ 2 * (q * q) = let f = simp square_is at e in omega (arith, same_out _ _ f) in
    let none : p ≡ 0 = root_of_double (suc p) p q (omega arith) double in
    let square : p * p ≡ 0 * 0 = ap (λ x. x * x) none in
    nat_abs-zero a (square-zero q (omega arith))

-- what P*P = -i*(Q*Q) says of the coefficients, and that P is zero
pair-zero : (a b c d : ℤ) → a *ℤ a -ℤ b *ℤ b ≡ c *ℤ d +ℤ d *ℤ c → a *ℤ b +ℤ b *ℤ a ≡ d *ℤ d -ℤ c *ℤ c → (a ≡ pos 0) × (b ≡ pos 0)
pair-zero a b c d e f =
    let norms : a *ℤ a +ℤ b *ℤ b ≡ c *ℤ c +ℤ d *ℤ d =
    equal_norms a b c d (square_norm a b ∙ ap₂ (λ x y. x *ℤ x +ℤ y *ℤ y) e f ∙ turned_norm c d) in
    (double_square a (c +ℤ d) (simp expand_whole (omega (arith, ints))), double_square b (c -ℤ d) (simp expand_whole (omega (arith, ints))))

-- ---- the automorphism that takes w to -w
abbrev twist : Cyclotomic → Cyclotomic
twist a = record { c0 = a.c0; c1 = neg_ℤ a.c1; c2 = a.c2; c3 = neg_ℤ a.c3 }

-- its law once in plain coefficients
twist-product : (a b : Cyclotomic) → record {
  c0 = (mul_cyclotomic a b).c0;
  c1 = neg_ℤ (mul_cyclotomic a b).c1;
  c2 = (mul_cyclotomic a b).c2;
  c3 = neg_ℤ (mul_cyclotomic a b).c3;
} ≡ mul_cyclotomic (record { c0 = a.c0; c1 = neg_ℤ a.c1; c2 = a.c2; c3 = neg_ℤ a.c3 }) (record { c0 = b.c0; c1 = neg_ℤ b.c1; c2 = b.c2; c3 = neg_ℤ b.c3 })
unfolding mul_cyclotomic
twist-product a b = same _ _ (simp expand_whole) (simp expand_whole) (simp expand_whole) (simp expand_whole)

twist-mul : (a b : Cyclotomic) → twist (mul_cyclotomic a b) ≡ mul_cyclotomic (twist a) (twist b)
twist-mul a b = twist-product a b

twist-zero : (a : Cyclotomic) → twist a ≡ zero_cyclotomic → a ≡ zero_cyclotomic
twist-zero a e = same a zero_cyclotomic
    (ap (λ (x : Cyclotomic). x.c0) e)
    (sym (neg_ℤ-neg_ℤ a.c1) ∙ ap (λ (x : Cyclotomic). neg_ℤ x.c1) e)
    (ap (λ (x : Cyclotomic). x.c2) e)
    (sym (neg_ℤ-neg_ℤ a.c3) ∙ ap (λ (x : Cyclotomic). neg_ℤ x.c3) e)

-- a + b*i
abbrev gaussian : ℤ → ℤ → Cyclotomic
gaussian a b = record { c0 = a; c1 = pos 0; c2 = b; c3 = pos 0 }

-- the coefficients of A*s(A)
real_part : Cyclotomic → ℤ
real_part a = (a.c0 *ℤ a.c0 -ℤ a.c2 *ℤ a.c2) +ℤ (a.c1 *ℤ a.c3 +ℤ a.c1 *ℤ a.c3)

imaginary_part : Cyclotomic → ℤ
imaginary_part a = (a.c0 *ℤ a.c2 +ℤ a.c0 *ℤ a.c2) +ℤ (a.c3 *ℤ a.c3 -ℤ a.c1 *ℤ a.c1)

conjugates : (a b c d : ℤ) → mul_cyclotomic (record { c0 = a; c1 = b; c2 = c; c3 = d }) (record { c0 = a; c1 = neg_ℤ b; c2 = c; c3 = neg_ℤ d }) ≡ record {
  c0 = (a *ℤ a -ℤ c *ℤ c) +ℤ (b *ℤ d +ℤ b *ℤ d);
  c1 = pos 0;
  c2 = (a *ℤ c +ℤ a *ℤ c) +ℤ (d *ℤ d -ℤ b *ℤ b);
  c3 = pos 0;
}
unfolding mul_cyclotomic
conjugates a b c d = same _ _
    (simp expand_whole)
    (simp expand_whole (omega (arith, ints)))
    (simp expand_whole)
    (simp expand_whole (omega (arith, ints)))

mul-twist : (a : Cyclotomic) → mul_cyclotomic a (twist a) ≡ gaussian (real_part a) (imaginary_part a)
unfolding real_part imaginary_part
mul-twist a = conjugates a.c0 a.c1 a.c2 a.c3

gaussian-mul : (a b c d : ℤ) → mul_cyclotomic (record { c0 = a; c1 = pos 0; c2 = b; c3 = pos 0 }) (record { c0 = c; c1 = pos 0; c2 = d; c3 = pos 0 }) ≡ record { c0 = a *ℤ c -ℤ b *ℤ d; c1 = pos 0; c2 = a *ℤ d +ℤ b *ℤ c; c3 = pos 0 }
unfolding mul_cyclotomic
gaussian-mul a b c d = same _ _ (simp units) (simp units) (simp units) (simp units)

-- w times -w is -i
root-twist : mul_cyclotomic eighth_root (twist eighth_root) ≡ gaussian (pos 0) (neg_ℤ (pos 1))
unfolding mul_cyclotomic
root-twist = refl

minus_one : (a : ℤ) → neg_ℤ (pos 1) *ℤ a ≡ neg_ℤ a
minus_one a = neg-mul (pos 1) a ∙ ap neg_ℤ (one-mul a)

-- -i times c + d*i
turned : (c d : ℤ) → mul_cyclotomic (mul_cyclotomic eighth_root (twist eighth_root)) (gaussian c d) ≡ gaussian d (neg_ℤ c)
turned c d =
    ap (λ x. mul_cyclotomic x (gaussian c d)) root-twist ∙ gaussian-mul (pos 0) (neg_ℤ (pos 1)) c d ∙ ap₂ gaussian real imaginary
  where
    real : pos 0 *ℤ c -ℤ neg_ℤ (pos 1) *ℤ d ≡ d
    real = ap₂ (λ x y. x -ℤ y) (zero-*ℤ c) (minus_one d) ∙ omega (arith, ints)

    imaginary : pos 0 *ℤ d +ℤ neg_ℤ (pos 1) *ℤ c ≡ neg_ℤ c
    imaginary = ap₂ (λ x y. x +ℤ y) (zero-*ℤ d) (minus_one c) ∙ omega (arith, ints)

-- the equation A*A = w*(B*B) times its image
regroup_left : (a s : Cyclotomic) → mul_cyclotomic (mul_cyclotomic a a) (mul_cyclotomic s s) ≡ mul_cyclotomic (mul_cyclotomic a s) (mul_cyclotomic a s)
regroup_left a s = simp sorted_cyclotomic

regroup_right : (w v b t : Cyclotomic) → mul_cyclotomic (mul_cyclotomic w (mul_cyclotomic b b)) (mul_cyclotomic v (mul_cyclotomic t t)) ≡ mul_cyclotomic (mul_cyclotomic w v) (mul_cyclotomic (mul_cyclotomic b t) (mul_cyclotomic b t))
regroup_right w v b t = simp sorted_cyclotomic

image : (a b : Cyclotomic) → mul_cyclotomic a a ≡ mul_cyclotomic eighth_root (mul_cyclotomic b b) → mul_cyclotomic (twist a) (twist a) ≡ mul_cyclotomic (twist eighth_root) (mul_cyclotomic (twist b) (twist b))
image a b e =
    sym (twist-mul a a) ∙ ap (λ x. twist x) e ∙ twist-mul eighth_root (mul_cyclotomic b b) ∙ ap (mul_cyclotomic (twist eighth_root)) (twist-mul b b)

-- P*P = -i*(Q*Q), where P = a + b*i and Q = c + d*i
squares_of_products : (p q : Cyclotomic) (a b c d : ℤ) → mul_cyclotomic p p ≡ mul_cyclotomic eighth_root (mul_cyclotomic q q) → mul_cyclotomic p (twist p) ≡ gaussian a b → mul_cyclotomic q (twist q) ≡ gaussian c d → gaussian (a *ℤ a -ℤ b *ℤ b) (a *ℤ b +ℤ b *ℤ a) ≡ gaussian (c *ℤ d +ℤ d *ℤ c) (neg_ℤ (c *ℤ c -ℤ d *ℤ d))
squares_of_products p q a b c d e f g =
    sym (gaussian-mul a b a b) ∙ sym (ap (λ x. mul_cyclotomic x x) f) ∙ sym (regroup_left p (twist p)) ∙ ap₂ mul_cyclotomic e (image p q e) ∙ regroup_right eighth_root (twist eighth_root) q (twist q) ∙ ap (mul_cyclotomic (mul_cyclotomic eighth_root (twist eighth_root))) (ap (λ x. mul_cyclotomic x x) g ∙ gaussian-mul c d c d) ∙ turned (c *ℤ c -ℤ d *ℤ d) (c *ℤ d +ℤ d *ℤ c)

opposite_difference : (x y : ℤ) → neg_ℤ (x -ℤ y) ≡ y -ℤ x
opposite_difference x y = omega (arith, ints)

product-zero : (p q : Cyclotomic) (a b c d : ℤ) → mul_cyclotomic p p ≡ mul_cyclotomic eighth_root (mul_cyclotomic q q) → mul_cyclotomic p (twist p) ≡ gaussian a b → mul_cyclotomic q (twist q) ≡ gaussian c d → mul_cyclotomic p (twist p) ≡ zero_cyclotomic
product-zero p q a b c d e f g =
    let equations = squares_of_products p q a b c d e f g in
    let none = pair-zero a b c d (ap (λ (x : Cyclotomic). x.c0) equations) (ap (λ (x : Cyclotomic). x.c2) equations ∙ opposite_difference (c *ℤ c) (d *ℤ d)) in
    f ∙ ap₂ gaussian none.0 none.1

left-zero : (a b : Cyclotomic) → mul_cyclotomic a a ≡ mul_cyclotomic eighth_root (mul_cyclotomic b b) → a ≡ zero_cyclotomic
left-zero a b e = elim (is_zero_or_not a) [
  | inl none ↦ none
  | inr some ↦ twist-zero a (zero_factor a (twist a) some (product-zero a b (real_part a) (imaginary_part a) (real_part b) (imaginary_part b) e (mul-twist a) (mul-twist b)))
]

eighth_root-nonzero : eighth_root ≢ zero_cyclotomic
eighth_root-nonzero e = omega (arith, same_out _ _ (ap (λ (x : Cyclotomic). x.c1) e))

right-zero : (a b : Cyclotomic) → mul_cyclotomic a a ≡ mul_cyclotomic eighth_root (mul_cyclotomic b b) → b ≡ zero_cyclotomic
right-zero a b e =
    let product : mul_cyclotomic eighth_root (mul_cyclotomic b b) ≡ zero_cyclotomic =
    sym e ∙ ap (λ x. mul_cyclotomic x a) (left-zero a b e) ∙ zero-mul a in
    square_root-zero b (zero_factor eighth_root (mul_cyclotomic b b) eighth_root-nonzero product)

-- a square is w times a square only where both are zero
pub no_root_of_eighth_root : (a b : Cyclotomic) → mul_cyclotomic a a ≡ mul_cyclotomic eighth_root (mul_cyclotomic b b) → (a ≡ zero_cyclotomic) × (b ≡ zero_cyclotomic)
no_root_of_eighth_root a b e = (left-zero a b e, right-zero a b e)
