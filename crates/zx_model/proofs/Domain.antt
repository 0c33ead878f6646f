-- Numbers have no zero divisors. A + B*z times A - B*z is N = A*A - w*(B*B), which is zero only where A and B are,
-- and N times a number is N times each of its components.
use Rattle.std.proofs.Common.{◌≡◌, ◌≢◌, sym, ◌∙◌, ap}
use Rattle.zx_model.specs.Cyclotomic.{Cyclotomic, zero_cyclotomic, eighth_root, add_cyclotomic, neg_cyclotomic, mul_cyclotomic}
use Rattle.zx_model.specs.Number.{Number, zero, add, neg, mul}
use Rattle.zx_model.proofs.CyclotomicRing as Cyclotomic
use Rattle.zx_model.proofs.CyclotomicRing.{expand_cyclotomic}
use Rattle.zx_model.proofs.CyclotomicDomain as CyclotomicDomain
use Rattle.zx_model.proofs.EighthRoot.{no_root_of_eighth_root}
use Rattle.zx_model.proofs.Ring.{same, mul_assoc, mul-add, mul-neg, mul-zero, add-neg, add_assoc, add-zero, zero-add, neg_add_cancel}

abbrev conjugate : Number → Number
conjugate a = record { plain = a.plain; turned = neg_cyclotomic a.turned }

-- N
norm : Number → Cyclotomic
norm a = add_cyclotomic (mul_cyclotomic a.plain a.plain) (neg_cyclotomic (mul_cyclotomic eighth_root (mul_cyclotomic a.turned a.turned)))

conjugate-mul : (a : Number) → mul (record { plain = a.plain; turned = neg_cyclotomic a.turned }) a ≡ record { plain = norm a; turned = zero_cyclotomic }
unfolding mul norm
conjugate-mul a = same _ _ (simp expand_cyclotomic) (simp expand_cyclotomic)

equal_if_difference-zero : (p q : Cyclotomic) → add_cyclotomic p (neg_cyclotomic q) ≡ zero_cyclotomic → p ≡ q
equal_if_difference-zero p q e =
    sym (Cyclotomic.add-zero p) ∙ ap (add_cyclotomic p) (sym (Cyclotomic.neg_add_cancel q)) ∙ sym (Cyclotomic.add_assoc p (neg_cyclotomic q) q) ∙ ap (λ x. add_cyclotomic x q) e ∙ Cyclotomic.zero-add q

norm-zero : (a : Number) → norm a ≡ zero_cyclotomic → a ≡ zero
unfolding norm
norm-zero a e =
    let none = no_root_of_eighth_root a.plain a.turned (equal_if_difference-zero _ _ e) in
    same a zero none.0 none.1

mul-plain : (n : Cyclotomic) (a : Number) → mul (record { plain = n; turned = zero_cyclotomic }) a ≡ record { plain = mul_cyclotomic n a.plain; turned = mul_cyclotomic n a.turned }
unfolding mul
mul-plain n a = same _ _ (simp expand_cyclotomic) (simp expand_cyclotomic)

-- the other factor of a product that is zero
zero_factor : (a b : Number) → a ≢ zero → mul a b ≡ zero → b ≡ zero
zero_factor a b nonzero e =
    let multiple : record { plain = mul_cyclotomic (norm a) b.plain; turned = mul_cyclotomic (norm a) b.turned } ≡ zero =
    sym (mul-plain (norm a) b) ∙ ap (λ x. mul x b) (sym (conjugate-mul a)) ∙ mul_assoc (conjugate a) a b ∙ ap (mul (conjugate a)) e ∙ mul-zero (conjugate a) in
    let some : norm a ≢ zero_cyclotomic = λ none. nonzero (norm-zero a none) in
    same b zero
    (CyclotomicDomain.zero_factor (norm a) b.plain some (ap (λ (x : Number). x.plain) multiple))
    (CyclotomicDomain.zero_factor (norm a) b.turned some (ap (λ (x : Number). x.turned) multiple))

pub mul-nonzero : (a b : Number) → a ≢ zero → b ≢ zero → mul a b ≢ zero
mul-nonzero a b p q e = q (zero_factor a b p e)

difference-zero : (a b : Number) → add a (neg b) ≡ zero → a ≡ b
difference-zero a b e =
    sym (add-zero a) ∙ ap (add a) (sym (neg_add_cancel b)) ∙ sym (add_assoc a (neg b) b) ∙ ap (λ x. add x b) e ∙ zero-add b

pub mul_left_cancel : (a b c : Number) → a ≢ zero → mul a b ≡ mul a c → b ≡ c
mul_left_cancel a b c nonzero e =
    let product : mul a (add b (neg c)) ≡ zero =
    mul-add a b (neg c) ∙ ap (add (mul a b)) (mul-neg a c) ∙ ap (λ x. add x (neg (mul a c))) e ∙ add-neg (mul a c) in
    difference-zero b c (zero_factor a (add b (neg c)) nonzero product)
