-- The ring Z[w] has no zero divisors. An element times its conjugate is P + Q*(w - w^3), P and Q whole; that times
-- P - Q*(w - w^3) is the whole number P^2 - 2*Q^2, which is zero only where P is, since 2 is no square.
use Rattle.std.proofs.Common.{◌≡◌, ◌≢◌, ℕ, zero as nought, suc, ◌+◌, ◌*◌, ◌<◌, ◌⊎◌, inl, inr, ℤ, pos, negsuc, ◌+ℤ◌, ◌-ℤ◌, ◌*ℤ◌, neg_ℤ, nat_abs, sym, ◌∙◌, ap, arith, refl}
use Rattle.std.proofs.lemmas.Bool.{cases_eq}
use borrow.Author.Differences.{ints, same_out}
use Rattle.zx_model.specs.Cyclotomic.{Cyclotomic, zero_cyclotomic, mul_cyclotomic}
use Rattle.zx_model.proofs.Whole.{units, expand as expand_whole}
use Rattle.zx_model.proofs.CyclotomicRing.{same, mul_assoc, mul_comm, mul-zero}

-- ---- 2 is no square
half : (p : ℕ) → (r : ℕ) × ((p ≡ r + r) ⊎ (p ≡ r + r + 1))
half nought = (0, inl (omega arith))
half (suc p) =
    elim (half p).1 [
      | inl even ↦ ((half p).0, inr (omega arith))
      | inr odd ↦ ((half p).0 + 1, inl (omega arith))
    ]

even_root : (p q r : ℕ) → p * p ≡ 2 * (q * q) → p ≡ r + r → q * q ≡ 2 * (r * r)
even_root p q r e even =
    let square : p * p ≡ (r + r) * (r + r) = ap (λ x. x * x) even in
    omega arith

odd_root : (p q r : ℕ) → p * p ≡ 2 * (q * q) → p ≡ r + r + 1 → ⊥
odd_root p q r e odd =
    let square : p * p ≡ (r + r + 1) * (r + r + 1) = ap (λ x. x * x) odd in
    omega arith

pub square-zero : (p : ℕ) → p * p ≡ 0 → p ≡ 0
square-zero nought e = refl
square-zero (suc p) e = absurd (omega arith)

smaller_root : (p q : ℕ) → 0 < p → p * p ≡ 2 * (q * q) → q < p
smaller_root p q positive e = grind arith

pub root_of_double : (n p q : ℕ) → p < n → p * p ≡ 2 * (q * q) → p ≡ 0
root_of_double nought p q below e = absurd (omega arith)
root_of_double (suc n) nought q below e = refl
root_of_double (suc n) (suc p) q below e =
    let smaller : q < suc p = smaller_root (suc p) q (omega arith) e in
    elim (half (suc p)).1 [
      | inl even ↦
          let none : q ≡ 0 = root_of_double n q (half (suc p)).0 (omega arith) (even_root (suc p) q _ e even) in
          let square : q * q ≡ 0 * 0 = ap (λ x. x * x) none in
          absurd (omega arith)
      | inr odd ↦ absurd (odd_root (suc p) q _ e odd)
    ]

-- ---- whole numbers
pub nat_abs-zero : (z : ℤ) → nat_abs z ≡ 0 → z ≡ pos 0
nat_abs-zero (pos n) e = ap pos e
nat_abs-zero (negsuc n) e = absurd (omega arith)

pub square_is : (z : ℤ) → z *ℤ z ≡ pos (nat_abs z * nat_abs z)
square_is (pos n) = refl
square_is (negsuc n) = refl

whole_factor : (n z : ℤ) → n ≢ pos 0 → n *ℤ z ≡ pos 0 → z ≡ pos 0
whole_factor (pos nought) z nonzero e = absurd (nonzero refl)
whole_factor (pos (suc n)) (pos nought) nonzero e = refl
whole_factor (pos (suc n)) (pos (suc z)) nonzero e = absurd (omega (arith, same_out _ _ e))
whole_factor (pos (suc n)) (negsuc z) nonzero e = absurd (omega (arith, ints))
whole_factor (negsuc n) (pos nought) nonzero e = refl
whole_factor (negsuc n) (pos (suc z)) nonzero e = absurd (omega (arith, ints))
whole_factor (negsuc n) (negsuc z) nonzero e = absurd (omega (arith, same_out _ _ e))

-- ---- the norm
abbrev conjugate : Cyclotomic → Cyclotomic
conjugate a = record { c0 = a.c0; c1 = neg_ℤ a.c3; c2 = neg_ℤ a.c2; c3 = neg_ℤ a.c1 }

-- P and Q
even_part : Cyclotomic → ℤ
even_part a = (a.c0 *ℤ a.c0 +ℤ a.c1 *ℤ a.c1) +ℤ (a.c2 *ℤ a.c2 +ℤ a.c3 *ℤ a.c3)

odd_part : Cyclotomic → ℤ
odd_part a = (a.c0 *ℤ a.c1 +ℤ a.c1 *ℤ a.c2) +ℤ (a.c2 *ℤ a.c3 -ℤ a.c0 *ℤ a.c3)

-- P + Q*(w - w^3)
abbrev with_root_two : ℤ → ℤ → Cyclotomic
with_root_two p q = record { c0 = p; c1 = q; c2 = pos 0; c3 = neg_ℤ q }

abbrev whole : ℤ → Cyclotomic
whole n = record { c0 = n; c1 = pos 0; c2 = pos 0; c3 = pos 0 }

-- both products once in plain coefficients
conjugates : (a b c d : ℤ) → mul_cyclotomic (record { c0 = a; c1 = b; c2 = c; c3 = d }) (record { c0 = a; c1 = neg_ℤ d; c2 = neg_ℤ c; c3 = neg_ℤ b }) ≡ record {
  c0 = (a *ℤ a +ℤ b *ℤ b) +ℤ (c *ℤ c +ℤ d *ℤ d);
  c1 = (a *ℤ b +ℤ b *ℤ c) +ℤ (c *ℤ d -ℤ a *ℤ d);
  c2 = pos 0;
  c3 = neg_ℤ ((a *ℤ b +ℤ b *ℤ c) +ℤ (c *ℤ d -ℤ a *ℤ d));
}
unfolding mul_cyclotomic
conjugates a b c d =
    same _ _ (simp expand_whole) (simp expand_whole) (simp expand_whole (omega (arith, ints))) (simp expand_whole)

real_conjugates : (p q : ℤ) → mul_cyclotomic (record { c0 = p; c1 = q; c2 = pos 0; c3 = neg_ℤ q }) (record { c0 = p; c1 = neg_ℤ q; c2 = pos 0; c3 = neg_ℤ (neg_ℤ q) }) ≡ record {
  c0 = p *ℤ p -ℤ (q *ℤ q +ℤ q *ℤ q);
  c1 = pos 0;
  c2 = pos 0;
  c3 = pos 0;
}
unfolding mul_cyclotomic
real_conjugates p q =
    same _ _
    (simp (units, expand_whole))
    (simp (units, expand_whole) (omega (arith, ints)))
    (simp (units, expand_whole) (omega (arith, ints)))
    (simp (units, expand_whole) (omega (arith, ints)))

mul-conjugate : (a : Cyclotomic) → mul_cyclotomic a (conjugate a) ≡ with_root_two (even_part a) (odd_part a)
unfolding even_part odd_part
mul-conjugate a = conjugates a.c0 a.c1 a.c2 a.c3

norm : Cyclotomic → ℤ
norm a = even_part a *ℤ even_part a -ℤ (odd_part a *ℤ odd_part a +ℤ odd_part a *ℤ odd_part a)

cofactor : Cyclotomic → Cyclotomic
cofactor a = mul_cyclotomic (conjugate a) (with_root_two (even_part a) (neg_ℤ (odd_part a)))

mul-cofactor : (a : Cyclotomic) → mul_cyclotomic a (cofactor a) ≡ whole (norm a)
unfolding cofactor norm
mul-cofactor a =
    sym (mul_assoc a (conjugate a) (with_root_two (even_part a) (neg_ℤ (odd_part a)))) ∙ ap (λ x. mul_cyclotomic x (with_root_two (even_part a) (neg_ℤ (odd_part a)))) (mul-conjugate a) ∙ real_conjugates (even_part a) (odd_part a)

norm_by_squares : (p q : ℤ) → p *ℤ p -ℤ (q *ℤ q +ℤ q *ℤ q) ≡ pos 0 → nat_abs p * nat_abs p ≡ 2 * (nat_abs q * nat_abs q)
norm_by_squares p q e = let f = simp square_is at e in omega (arith, ints)

sum_of_squares : (a b c d : ℤ) → (a *ℤ a +ℤ b *ℤ b) +ℤ (c *ℤ c +ℤ d *ℤ d) ≡ pos ((nat_abs a * nat_abs a + nat_abs b * nat_abs b) + (nat_abs c * nat_abs c + nat_abs d * nat_abs d))
sum_of_squares a b c d = simp square_is

norm-zero : (a : Cyclotomic) → norm a ≡ pos 0 → a ≡ zero_cyclotomic
unfolding norm even_part
norm-zero a e =
    let p : ℕ = nat_abs (even_part a) in
    let none : even_part a ≡ pos 0 = nat_abs-zero _ (root_of_double (suc p) p (nat_abs (odd_part a)) (omega arith) (norm_by_squares (even_part a) (odd_part a) e)) in
    let squares : pos ((nat_abs a.c0 * nat_abs a.c0 + nat_abs a.c1 * nat_abs a.c1) + (nat_abs a.c2 * nat_abs a.c2 + nat_abs a.c3 * nat_abs a.c3)) ≡ pos 0 =
    sym (sum_of_squares a.c0 a.c1 a.c2 a.c3) ∙ none in
    same a zero_cyclotomic
    (nat_abs-zero _ (square-zero _ (omega (arith, same_out _ _ squares))))
    (nat_abs-zero _ (square-zero _ (omega (arith, same_out _ _ squares))))
    (nat_abs-zero _ (square-zero _ (omega (arith, same_out _ _ squares))))
    (nat_abs-zero _ (square-zero _ (omega (arith, same_out _ _ squares))))

pub is_zero_or_not : (a : Cyclotomic) → (a ≡ zero_cyclotomic) ⊎ (a ≢ zero_cyclotomic)
unfolding norm even_part odd_part
is_zero_or_not a = elim (cases_eq (nat_abs (norm a)) 0) [
  | inl none ↦ inl (norm-zero a (nat_abs-zero _ none))
  | inr some ↦ inr (λ e. some (ap (λ x. nat_abs (norm x)) e))
]

-- ---- no zero divisors
mul-whole : (n : ℤ) (a : Cyclotomic) → mul_cyclotomic (whole n) a ≡ record { c0 = n *ℤ a.c0; c1 = n *ℤ a.c1; c2 = n *ℤ a.c2; c3 = n *ℤ a.c3 }
unfolding mul_cyclotomic
mul-whole n a = same _ _ (simp units) (simp units) (simp units) (simp units)

whole_multiple : (n : ℤ) (a : Cyclotomic) → n ≢ pos 0 → mul_cyclotomic (whole n) a ≡ zero_cyclotomic → a ≡ zero_cyclotomic
whole_multiple n a nonzero e =
    let products = sym (mul-whole n a) ∙ e in
    same a zero_cyclotomic
    (whole_factor n a.c0 nonzero (ap (λ (x : Cyclotomic). x.c0) products))
    (whole_factor n a.c1 nonzero (ap (λ (x : Cyclotomic). x.c1) products))
    (whole_factor n a.c2 nonzero (ap (λ (x : Cyclotomic). x.c2) products))
    (whole_factor n a.c3 nonzero (ap (λ (x : Cyclotomic). x.c3) products))

-- the other factor of a product that is zero
pub zero_factor : (a b : Cyclotomic) → a ≢ zero_cyclotomic → mul_cyclotomic a b ≡ zero_cyclotomic → b ≡ zero_cyclotomic
zero_factor a b nonzero e =
    let multiple : mul_cyclotomic (whole (norm a)) b ≡ zero_cyclotomic =
    ap (λ x. mul_cyclotomic x b) (sym (mul-cofactor a) ∙ mul_comm a (cofactor a)) ∙ mul_assoc (cofactor a) a b ∙ ap (mul_cyclotomic (cofactor a)) e ∙ mul-zero (cofactor a) in
    whole_multiple (norm a) b (λ none. nonzero (norm-zero a none)) multiple

-- a square is zero only where its root is
pub square_root-zero : (a : Cyclotomic) → mul_cyclotomic a a ≡ zero_cyclotomic → a ≡ zero_cyclotomic
square_root-zero a e = elim (is_zero_or_not a) [ inl none ↦ none | inr some ↦ zero_factor a a some e ]
