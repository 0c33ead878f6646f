-- The ring Z[w] is a commutative ring.
use Rattle.std.proofs.Common.{◌≡◌, sym, ◌∙◌, ap, refl}
use lib.IntN.{+ℤ_comm, +ℤ_assoc, +ℤ_idr, +ℤ_invr, neg_ℤ-neg_ℤ, neg_ℤ-+ℤ}
use Rattle.zx_model.specs.Cyclotomic.{Cyclotomic, zero_cyclotomic, one_cyclotomic, add_cyclotomic, neg_cyclotomic, mul_cyclotomic}
use Rattle.zx_model.proofs.Whole.{units, expand as expand_whole}

-- elements of the ring are equal if their coefficients are
pub same : (a b : Cyclotomic) → a.c0 ≡ b.c0 → a.c1 ≡ b.c1 → a.c2 ≡ b.c2 → a.c3 ≡ b.c3 → a ≡ b
same a b p q r s = λ i. record { c0 = p i; c1 = q i; c2 = r i; c3 = s i }

pub add_comm : (a b : Cyclotomic) → add_cyclotomic a b ≡ add_cyclotomic b a
unfolding add_cyclotomic
add_comm a b = same _ _ (+ℤ_comm a.c0 b.c0) (+ℤ_comm a.c1 b.c1) (+ℤ_comm a.c2 b.c2) (+ℤ_comm a.c3 b.c3)

pub add_assoc : (a b c : Cyclotomic) → add_cyclotomic (add_cyclotomic a b) c ≡ add_cyclotomic a (add_cyclotomic b c)
unfolding add_cyclotomic
add_assoc a b c = same _ _ (+ℤ_assoc a.c0 b.c0 c.c0) (+ℤ_assoc a.c1 b.c1 c.c1) (+ℤ_assoc a.c2 b.c2 c.c2) (+ℤ_assoc a.c3 b.c3 c.c3)

pub add_left_comm : (a b c : Cyclotomic) → add_cyclotomic a (add_cyclotomic b c) ≡ add_cyclotomic b (add_cyclotomic a c)
add_left_comm a b c = sym (add_assoc a b c) ∙ ap (λ x. add_cyclotomic x c) (add_comm a b) ∙ add_assoc b a c

pub add-zero : (a : Cyclotomic) → add_cyclotomic a zero_cyclotomic ≡ a
unfolding add_cyclotomic
add-zero a = same _ _ (+ℤ_idr a.c0) (+ℤ_idr a.c1) (+ℤ_idr a.c2) (+ℤ_idr a.c3)

pub zero-add : (a : Cyclotomic) → add_cyclotomic zero_cyclotomic a ≡ a
zero-add a = add_comm zero_cyclotomic a ∙ add-zero a

pub add-neg : (a : Cyclotomic) → add_cyclotomic a (neg_cyclotomic a) ≡ zero_cyclotomic
unfolding add_cyclotomic neg_cyclotomic
add-neg a = same _ _ (+ℤ_invr a.c0) (+ℤ_invr a.c1) (+ℤ_invr a.c2) (+ℤ_invr a.c3)

pub mul_comm : (a b : Cyclotomic) → mul_cyclotomic a b ≡ mul_cyclotomic b a
unfolding mul_cyclotomic
mul_comm a b = same _ _ (simp expand_whole) (simp expand_whole) (simp expand_whole) (simp expand_whole)

pub mul-one : (a : Cyclotomic) → mul_cyclotomic a one_cyclotomic ≡ a
unfolding mul_cyclotomic
mul-one a = same _ _ (simp units) (simp units) (simp units) (simp units)

pub mul-zero : (a : Cyclotomic) → mul_cyclotomic a zero_cyclotomic ≡ zero_cyclotomic
unfolding mul_cyclotomic
mul-zero a = same _ _ (simp units) (simp units) (simp units) (simp units)

pub mul-add : (a b c : Cyclotomic) → mul_cyclotomic a (add_cyclotomic b c) ≡ add_cyclotomic (mul_cyclotomic a b) (mul_cyclotomic a c)
unfolding add_cyclotomic mul_cyclotomic
mul-add a b c = same _ _ (simp expand_whole) (simp expand_whole) (simp expand_whole) (simp expand_whole)

pub mul-neg : (a b : Cyclotomic) → mul_cyclotomic a (neg_cyclotomic b) ≡ neg_cyclotomic (mul_cyclotomic a b)
unfolding neg_cyclotomic mul_cyclotomic
mul-neg a b = same _ _ (simp expand_whole) (simp expand_whole) (simp expand_whole) (simp expand_whole)

pub mul_assoc : (a b c : Cyclotomic) → mul_cyclotomic (mul_cyclotomic a b) c ≡ mul_cyclotomic a (mul_cyclotomic b c)
unfolding mul_cyclotomic
mul_assoc a b c = same _ _ (simp expand_whole) (simp expand_whole) (simp expand_whole) (simp expand_whole)

pub mul_left_comm : (a b c : Cyclotomic) → mul_cyclotomic a (mul_cyclotomic b c) ≡ mul_cyclotomic b (mul_cyclotomic a c)
mul_left_comm a b c = sym (mul_assoc a b c) ∙ ap (λ x. mul_cyclotomic x c) (mul_comm a b) ∙ mul_assoc b a c

pub one-mul : (a : Cyclotomic) → mul_cyclotomic one_cyclotomic a ≡ a
one-mul a = mul_comm one_cyclotomic a ∙ mul-one a

pub zero-mul : (a : Cyclotomic) → mul_cyclotomic zero_cyclotomic a ≡ zero_cyclotomic
zero-mul a = mul_comm zero_cyclotomic a ∙ mul-zero a

pub add-mul : (a b c : Cyclotomic) → mul_cyclotomic (add_cyclotomic a b) c ≡ add_cyclotomic (mul_cyclotomic a c) (mul_cyclotomic b c)
add-mul a b c = mul_comm (add_cyclotomic a b) c ∙ mul-add c a b ∙ ap (λ x. add_cyclotomic x (mul_cyclotomic c b)) (mul_comm c a) ∙ ap (add_cyclotomic (mul_cyclotomic a c)) (mul_comm c b)

pub neg-mul : (a b : Cyclotomic) → mul_cyclotomic (neg_cyclotomic a) b ≡ neg_cyclotomic (mul_cyclotomic a b)
neg-mul a b = mul_comm (neg_cyclotomic a) b ∙ mul-neg b a ∙ ap neg_cyclotomic (mul_comm b a)

pub neg-neg : (a : Cyclotomic) → neg_cyclotomic (neg_cyclotomic a) ≡ a
unfolding neg_cyclotomic
neg-neg a = same _ _ (neg_ℤ-neg_ℤ a.c0) (neg_ℤ-neg_ℤ a.c1) (neg_ℤ-neg_ℤ a.c2) (neg_ℤ-neg_ℤ a.c3)

pub neg-add : (a b : Cyclotomic) → neg_cyclotomic (add_cyclotomic a b) ≡ add_cyclotomic (neg_cyclotomic a) (neg_cyclotomic b)
unfolding add_cyclotomic neg_cyclotomic
neg-add a b = same _ _ (neg_ℤ-+ℤ a.c0 b.c0) (neg_ℤ-+ℤ a.c1 b.c1) (neg_ℤ-+ℤ a.c2 b.c2) (neg_ℤ-+ℤ a.c3 b.c3)

pub neg-zero : neg_cyclotomic zero_cyclotomic ≡ zero_cyclotomic
unfolding neg_cyclotomic
neg-zero = refl

pub neg_add_cancel : (a : Cyclotomic) → add_cyclotomic (neg_cyclotomic a) a ≡ zero_cyclotomic
neg_add_cancel a = add_comm (neg_cyclotomic a) a ∙ add-neg a

pub add-neg-add : (a b : Cyclotomic) → add_cyclotomic a (add_cyclotomic (neg_cyclotomic a) b) ≡ b
add-neg-add a b = sym (add_assoc a (neg_cyclotomic a) b) ∙ ap (λ x. add_cyclotomic x b) (add-neg a) ∙ zero-add b

pub neg-add-add : (a b : Cyclotomic) → add_cyclotomic (neg_cyclotomic a) (add_cyclotomic a b) ≡ b
neg-add-add a b = add_left_comm (neg_cyclotomic a) a b ∙ add-neg-add a b

-- By this set `simp` proves each identity of Z[w] as a commutative ring: both sides become sums of signed products,
-- brackets to the right and in one order.
pub ruleset expand_cyclotomic = (zero-mul, mul-zero, one-mul, mul-one, zero-add, add-zero, neg-zero, neg-neg, mul-add, add-mul, mul-neg, neg-mul, neg-add, mul_assoc, mul_comm, mul_left_comm, add_assoc, add_comm, add_left_comm, add-neg, neg_add_cancel, add-neg-add, neg-add-add)

-- the same without distribution: products and sums are only sorted
pub ruleset sorted_cyclotomic = (zero-mul, mul-zero, one-mul, mul-one, zero-add, add-zero, mul_assoc, mul_comm, mul_left_comm, add_assoc, add_comm, add_left_comm)
