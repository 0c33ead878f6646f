-- Scalars as fractions: how they multiply, and when a matrix is one of them times another.
use Rattle.std.proofs.Common.{◌≡◌, ◌≢◌, ℕ, zero as nought, suc, ◌+◌, ◌<◌, ◌≤◌, ℤ, pos, negsuc, ◌+ℤ◌, ◌-ℤ◌, neg_ℤ, Bool, List, length, sym, ◌∙◌, ap, subst, arith, refl, suc-add, zero-add}
use borrow.Author.Differences.{ints, up, down}
use Rattle.zx_model.specs.Phase.{turn, sum_of_phases, opposite_phase}
use Rattle.zx_model.specs.Cyclotomic.{add_cyclotomic, neg_cyclotomic, mul_cyclotomic}
use Rattle.zx_model.specs.Number.{Number, zero, one, add, neg, mul, root_power}
use Rattle.zx_model.specs.Constants.{two, root_of_two}
use Rattle.zx_model.specs.Scalar.{root_of_two_power, numerator, denominator, IsScaled, IsWithin, one_scalar, product_of_scalars, quotient_of_scalars}
use Rattle.zx_model.specs.declared.scalar.Scalar.{Scalar}
use Rattle.zx_model.specs.Proportional.{Proportional}
use Rattle.zx_model.proofs.Ring.{sorted, mul_assoc, mul_left_comm, one-mul, two_nonzero, mul-zero, one_nonzero}
use Rattle.zx_model.proofs.Domain.{mul-nonzero, mul_left_cancel}
use Rattle.zx_model.proofs.Powers.{root_power-sum_of_phases, root_power-opposite_phase, root_power-nonzero, root_power-zero}

pub root_of_two_squared : mul root_of_two root_of_two ≡ two
unfolding add mul neg root_power add_cyclotomic neg_cyclotomic mul_cyclotomic
root_of_two_squared = refl

root_of_two_nonzero : root_of_two ≢ zero
root_of_two_nonzero e = two_nonzero (sym root_of_two_squared ∙ ap (mul root_of_two) e ∙ mul-zero root_of_two)

pub root_of_two_power-nonzero : (k : ℕ) → root_of_two_power k ≢ zero
root_of_two_power-nonzero nought = one_nonzero
root_of_two_power-nonzero (suc k) =
    mul-nonzero root_of_two (root_of_two_power k) root_of_two_nonzero (root_of_two_power-nonzero k)

pub root_of_two_power-add : (j k : ℕ) → root_of_two_power (j + k) ≡ mul (root_of_two_power j) (root_of_two_power k)
root_of_two_power-add nought k = ap root_of_two_power (zero-add k) ∙ sym (one-mul (root_of_two_power k))
root_of_two_power-add (suc j) k =
    ap root_of_two_power (suc-add j k) ∙ ap (mul root_of_two) (root_of_two_power-add j k) ∙ sym (mul_assoc root_of_two (root_of_two_power j) (root_of_two_power k))

numerator-up : (i : ℤ) → numerator i ≡ root_of_two_power (up i)
numerator-up (pos k) = refl
numerator-up (negsuc k) = refl

denominator-down : (i : ℤ) → denominator i ≡ root_of_two_power (down i)
denominator-down (pos k) = refl
denominator-down (negsuc k) = refl

pub numerator-nonzero : (i : ℤ) → numerator i ≢ zero
numerator-nonzero i e = root_of_two_power-nonzero (up i) (sym (numerator-up i) ∙ e)

pub denominator-nonzero : (i : ℤ) → denominator i ≢ zero
denominator-nonzero i e = root_of_two_power-nonzero (down i) (sym (denominator-down i) ∙ e)

taken_in : (d b z g : Number) → mul d (mul (mul b z) g) ≡ mul (mul (mul d b) z) g
taken_in d b z g = simp sorted

-- r^a times f is r^b * z^k times g; then so are they with any other exponents that differ by as much
reduced : (a b k : ℕ) (s : Scalar) (f g : Number) → up s.root2 + a ≡ b + down s.root2 → root_power s.turn ≡ root_power k → mul (root_of_two_power a) f ≡ mul (mul (root_of_two_power b) (root_power k)) g → mul (denominator s.root2) f ≡ mul (mul (numerator s.root2) (root_power s.turn)) g
reduced a b k s f g exponents turns e =
    let r : Number = root_of_two_power a in
    let d : Number = denominator s.root2 in
    let n : Number = numerator s.root2 in
    let swapped : down s.root2 + b ≡ a + up s.root2 = omega (arith, exponents) in
    let powers : mul d (root_of_two_power b) ≡ mul r n =
    ap (λ x. mul x (root_of_two_power b)) (denominator-down s.root2) ∙ sym (root_of_two_power-add (down s.root2) b) ∙ ap root_of_two_power swapped ∙ root_of_two_power-add a (up s.root2) ∙ ap (mul r) (sym (numerator-up s.root2)) in
    mul_left_cancel r _ _ (root_of_two_power-nonzero a) (mul_left_comm r d f ∙ ap (mul d) e ∙ taken_in d (root_of_two_power b) (root_power k) g ∙ ap (λ x. mul (mul x (root_power k)) g) powers ∙ ap (λ x. mul (mul (mul r n) x) g) (sym turns) ∙ sym (taken_in r n (root_power s.turn) g))

pub scaled_if : (n m : ℕ) (f g : List Bool → List Bool → Number) (s : Scalar) (a b k : ℕ) → up s.root2 + a ≡ b + down s.root2 → root_power s.turn ≡ root_power k → ((x y : List Bool) → length x ≡ n → length y ≡ m → mul (root_of_two_power a) (f x y) ≡ mul (mul (root_of_two_power b) (root_power k)) (g x y)) → IsScaled n m f s g
scaled_if n m f g s a b k exponents turns e = λ x y p q. reduced a b k s (f x y) (g x y) exponents turns (e x y p q)

pub scaled_refl : (n m : ℕ) (f : List Bool → List Bool → Number) → IsScaled n m f one_scalar f
scaled_refl n m f = λ x y p q. ap (λ z. mul z (f x y)) (sym root_power-zero ∙ sym (one-mul (root_power 0)))

chained : (a b u c d v f g h : Number) → mul a f ≡ mul (mul b u) g → mul c g ≡ mul (mul d v) h → mul (mul a c) f ≡ mul (mul (mul b d) (mul u v)) h
chained a b u c d v f g h p q =
    let first : mul (mul a c) f ≡ mul c (mul a f) = simp sorted in
    let second : mul c (mul (mul b u) g) ≡ mul (mul b u) (mul c g) = simp sorted in
    let third : mul (mul b u) (mul (mul d v) h) ≡ mul (mul (mul b d) (mul u v)) h = simp sorted in
    first ∙ ap (mul c) p ∙ second ∙ ap (mul (mul b u)) q ∙ third

-- f is s times g, and g is t times h
pub scaled_trans : (n m : ℕ) (f g h : List Bool → List Bool → Number) (s t : Scalar) → IsScaled n m f s g → IsScaled n m g t h → IsScaled n m f (product_of_scalars s t) h
scaled_trans n m f g h s t p q =
    let a : ℕ = down s.root2 + down t.root2 in
    let b : ℕ = up s.root2 + up t.root2 in
    let denominators : mul (denominator s.root2) (denominator t.root2) ≡ root_of_two_power a =
    ap (λ x. mul x (denominator t.root2)) (denominator-down s.root2) ∙ ap (mul (root_of_two_power (down s.root2))) (denominator-down t.root2) ∙ sym (root_of_two_power-add (down s.root2) (down t.root2)) in
    let numerators : mul (numerator s.root2) (numerator t.root2) ≡ root_of_two_power b =
    ap (λ x. mul x (numerator t.root2)) (numerator-up s.root2) ∙ ap (mul (root_of_two_power (up s.root2))) (numerator-up t.root2) ∙ sym (root_of_two_power-add (up s.root2) (up t.root2)) in
    let turns : mul (root_power s.turn) (root_power t.turn) ≡ root_power (sum_of_phases s.turn t.turn) =
    sym (root_power-sum_of_phases s.turn t.turn) in
    let exponents : up (s.root2 +ℤ t.root2) + a ≡ b + down (s.root2 +ℤ t.root2) = omega (arith, ints) in
    scaled_if n m f h (product_of_scalars s t) a b (sum_of_phases s.turn t.turn) exponents refl (λ x y k l.
    ap (λ z. mul z (f x y)) (sym denominators) ∙ chained _ _ _ _ _ _ (f x y) (g x y) (h x y) (p x y k l) (q x y k l) ∙ ap (λ z. mul (mul z (mul (root_power s.turn) (root_power t.turn))) (h x y)) numerators ∙ ap (λ z. mul (mul (root_of_two_power b) z) (h x y)) turns)

-- f is s times g: then g is the inverse of s times f
abbrev pub inverse : Scalar → Scalar
inverse s = record { root2 = neg_ℤ s.root2; turn = opposite_phase s.turn }

returned : (d n z o f g : Number) → mul o z ≡ one → mul d f ≡ mul (mul n z) g → mul n g ≡ mul (mul d o) f
returned d n z o f g unit e =
    let front : mul (mul o z) (mul n g) ≡ mul o (mul (mul n z) g) = simp sorted in
    let back : mul o (mul d f) ≡ mul (mul d o) f = simp sorted in
    sym (one-mul (mul n g)) ∙ ap (λ x. mul x (mul n g)) (sym unit) ∙ front ∙ ap (mul o) (sym e) ∙ back

pub scaled_sym : (n m : ℕ) (f g : List Bool → List Bool → Number) (s : Scalar) → s.turn < turn → IsScaled n m f s g → IsScaled n m g (inverse s) f
scaled_sym n m f g s below p =
    let unit : mul (root_power (opposite_phase s.turn)) (root_power s.turn) ≡ one =
    root_power-opposite_phase s.turn (omega (arith, below)) in
    let exponents : up (neg_ℤ s.root2) + up s.root2 ≡ down s.root2 + down (neg_ℤ s.root2) = omega (arith, ints) in
    scaled_if n m g f (inverse s) (up s.root2) (down s.root2) (opposite_phase s.turn) exponents refl (λ x y k l.
    ap (λ z. mul z (g x y)) (sym (numerator-up s.root2)) ∙ returned _ _ _ _ (f x y) (g x y) unit (p x y k l) ∙ ap (λ z. mul (mul z (root_power (opposite_phase s.turn))) (f x y)) (denominator-down s.root2))

minus : (a b : ℤ) → a -ℤ b ≡ a +ℤ neg_ℤ b
minus a b = omega (arith, ints)

-- f is s times g, and h is t times g: then f is the quotient times h
pub scaled_over : (n m : ℕ) (f g h : List Bool → List Bool → Number) (s t : Scalar) → t.turn < turn → IsScaled n m f s g → IsScaled n m h t g → IsScaled n m f (quotient_of_scalars s t) h
scaled_over n m f g h s t below p q =
    subst (λ i. IsScaled n m f (record { root2 = i; turn = sum_of_phases s.turn (opposite_phase t.turn) }) h) (sym (minus s.root2 t.root2)) (scaled_trans n m f g h s (inverse t) p (scaled_sym n m h g t below q))

pub scaled_proportional : (n m : ℕ) (f g : List Bool → List Bool → Number) (s : Scalar) → IsScaled n m f s g → Proportional n m f g
scaled_proportional n m f g s p = record {
  left = denominator s.root2;
  right = mul (numerator s.root2) (root_power s.turn);
  left_nonzero = denominator-nonzero s.root2;
  right_nonzero = mul-nonzero _ _ (numerator-nonzero s.root2) (root_power-nonzero s.turn);
  equal = p;
}

-- ---- how large the exponent of the root of two is
pub within_product : (a b : ℕ) (s t : Scalar) → IsWithin a s → IsWithin b t → IsWithin (a + b) (product_of_scalars s t)
within_product a b s t p q = omega (arith, ints, p, q)

pub within_more : (a b : ℕ) (s : Scalar) → IsWithin a s → a ≤ b → IsWithin b s
within_more a b s p q = omega (arith, p, q)
