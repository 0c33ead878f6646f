-- Numbers form a commutative ring: each law holds of both components, by the laws of Z[w].
use Rattle.std.proofs.Common.{◌≡◌, ◌≢◌, sym, ◌∙◌, ap, arith, Bool, true, false}
use borrow.Author.Differences.{up}
use Rattle.zx_model.specs.Cyclotomic.{add_cyclotomic}
use Rattle.zx_model.specs.Number.{Number, zero, one, add, neg, mul, sign}
use Rattle.zx_model.specs.Constants.{two}
use Rattle.zx_model.specs.Bits.{xor}
use Rattle.zx_model.proofs.CyclotomicRing as Cyclotomic
use Rattle.zx_model.proofs.CyclotomicRing.{expand_cyclotomic}

-- numbers are equal if their components are
pub same : (a b : Number) → a.plain ≡ b.plain → a.turned ≡ b.turned → a ≡ b
same a b p q = λ i. record { plain = p i; turned = q i }

pub add_comm : (a b : Number) → add a b ≡ add b a
unfolding add
add_comm a b = same _ _ (Cyclotomic.add_comm a.plain b.plain) (Cyclotomic.add_comm a.turned b.turned)

pub add_assoc : (a b c : Number) → add (add a b) c ≡ add a (add b c)
unfolding add
add_assoc a b c = same _ _ (Cyclotomic.add_assoc a.plain b.plain c.plain) (Cyclotomic.add_assoc a.turned b.turned c.turned)

pub add_left_comm : (a b c : Number) → add a (add b c) ≡ add b (add a c)
add_left_comm a b c = sym (add_assoc a b c) ∙ ap (λ x. add x c) (add_comm a b) ∙ add_assoc b a c

pub add-zero : (a : Number) → add a zero ≡ a
unfolding add
add-zero a = same _ _ (Cyclotomic.add-zero a.plain) (Cyclotomic.add-zero a.turned)

pub zero-add : (a : Number) → add zero a ≡ a
zero-add a = add_comm zero a ∙ add-zero a

pub add-neg : (a : Number) → add a (neg a) ≡ zero
unfolding add neg
add-neg a = same _ _ (Cyclotomic.add-neg a.plain) (Cyclotomic.add-neg a.turned)

pub mul_comm : (a b : Number) → mul a b ≡ mul b a
unfolding mul
mul_comm a b = same _ _ (simp expand_cyclotomic) (simp expand_cyclotomic)

pub mul-one : (a : Number) → mul a one ≡ a
unfolding mul
mul-one a = same _ _ (simp expand_cyclotomic) (simp expand_cyclotomic)

pub mul-zero : (a : Number) → mul a zero ≡ zero
unfolding mul
mul-zero a = same _ _ (simp expand_cyclotomic) (simp expand_cyclotomic)

pub mul-add : (a b c : Number) → mul a (add b c) ≡ add (mul a b) (mul a c)
unfolding add mul
mul-add a b c = same _ _ (simp expand_cyclotomic) (simp expand_cyclotomic)

pub mul-neg : (a b : Number) → mul a (neg b) ≡ neg (mul a b)
unfolding neg mul
mul-neg a b = same _ _ (simp expand_cyclotomic) (simp expand_cyclotomic)

pub mul_assoc : (a b c : Number) → mul (mul a b) c ≡ mul a (mul b c)
unfolding mul
mul_assoc a b c = same _ _ (simp expand_cyclotomic) (simp expand_cyclotomic)

pub mul_left_comm : (a b c : Number) → mul a (mul b c) ≡ mul b (mul a c)
mul_left_comm a b c = sym (mul_assoc a b c) ∙ ap (λ x. mul x c) (mul_comm a b) ∙ mul_assoc b a c

pub one-mul : (a : Number) → mul one a ≡ a
one-mul a = mul_comm one a ∙ mul-one a

pub zero-mul : (a : Number) → mul zero a ≡ zero
zero-mul a = mul_comm zero a ∙ mul-zero a

pub add-mul : (a b c : Number) → mul (add a b) c ≡ add (mul a c) (mul b c)
add-mul a b c = mul_comm (add a b) c ∙ mul-add c a b ∙ ap (λ x. add x (mul c b)) (mul_comm c a) ∙ ap (add (mul a c)) (mul_comm c b)

pub neg-mul : (a b : Number) → mul (neg a) b ≡ neg (mul a b)
neg-mul a b = mul_comm (neg a) b ∙ mul-neg b a ∙ ap neg (mul_comm b a)

pub neg-neg : (a : Number) → neg (neg a) ≡ a
unfolding neg
neg-neg a = same _ _ (Cyclotomic.neg-neg a.plain) (Cyclotomic.neg-neg a.turned)

pub neg-add : (a b : Number) → neg (add a b) ≡ add (neg a) (neg b)
unfolding add neg
neg-add a b = same _ _ (Cyclotomic.neg-add a.plain b.plain) (Cyclotomic.neg-add a.turned b.turned)

pub neg-zero : neg zero ≡ zero
unfolding neg
neg-zero = same _ _ Cyclotomic.neg-zero Cyclotomic.neg-zero

pub neg_add_cancel : (a : Number) → add (neg a) a ≡ zero
neg_add_cancel a = add_comm (neg a) a ∙ add-neg a

pub add-neg-add : (a b : Number) → add a (add (neg a) b) ≡ b
add-neg-add a b = sym (add_assoc a (neg a) b) ∙ ap (λ x. add x b) (add-neg a) ∙ zero-add b

pub neg-add-add : (a b : Number) → add (neg a) (add a b) ≡ b
neg-add-add a b = add_left_comm (neg a) a b ∙ add-neg-add a b

-- By this set `simp` proves each identity of commutative rings: both sides become sums of signed products,
-- brackets to the right and in one order.
pub ruleset expand = (zero-mul, mul-zero, one-mul, mul-one, zero-add, add-zero, neg-zero, neg-neg, mul-add, add-mul, mul-neg, neg-mul, neg-add, mul_assoc, mul_comm, mul_left_comm, add_assoc, add_comm, add_left_comm, add-neg, neg_add_cancel, add-neg-add, neg-add-add)

-- the same without distribution: products and sums are only sorted
pub ruleset sorted = (zero-mul, mul-zero, one-mul, mul-one, zero-add, add-zero, mul_assoc, mul_comm, mul_left_comm, add_assoc, add_comm, add_left_comm)

pub one_nonzero : one ≢ zero
one_nonzero e = omega (arith, ap (λ (n : Number). up n.plain.c0) e)

pub two_nonzero : two ≢ zero
unfolding add add_cyclotomic
two_nonzero e = omega (arith, ap (λ (n : Number). up n.plain.c0) e)

-- a factor of one isn't zero
pub unit-nonzero : (a b : Number) → mul a b ≡ one → b ≢ zero
unit-nonzero a b product e = one_nonzero (sym product ∙ ap (mul a) e ∙ mul-zero a)

pub mul-sign : (a b : Bool) → mul (sign a) (sign b) ≡ sign (xor a b)
mul-sign false b = one-mul (sign b)
mul-sign true false = mul-one (neg one)
mul-sign true true = simp expand

pub mul-sign_same : (b : Bool) → mul (sign b) (sign b) ≡ one
mul-sign_same false = mul-one one
mul-sign_same true = mul-sign true true
