-- Numbers that are scalars, and the scalar between two matrices of which these are factors.
use Rattle.std.proofs.Common.{◌≡◌, ℕ, ◌≤◌, ℤ, pos, negsuc, ◌+ℤ◌, neg_ℤ, ◌%◌, Bool, List, [], length, sym, ◌∙◌, ap, arith, refl}
use borrow.Author.Differences.{ints, same_out}
use Rattle.zx_model.specs.Phase.{turn, sum_of_phases, opposite_phase}
use Rattle.zx_model.specs.Number.{Number, one, mul, root_power}
use Rattle.zx_model.specs.Scalar.{numerator, denominator, IsScaled, one_scalar, product_of_scalars}
use Rattle.zx_model.specs.declared.scalar.Scalar.{Scalar}
use Rattle.zx_model.proofs.Ring.{sorted, mul_assoc, mul-one, one-mul}
use Rattle.zx_model.proofs.Powers.{root_power-zero, root_power-mod, root_power-sum_of_phases, root_power-opposite_phase}
use Rattle.zx_model.proofs.Scalars.{inverse, scaled_sym, scaled_trans}

-- x is s, as a number
abbrev pub IsScalar : Number → Scalar → Type 0
IsScalar x s = mul (denominator s.root2) x ≡ mul (numerator s.root2) (root_power s.turn)

pub is_renamed : (x : Number) (s t : Scalar) → s.root2 ≡ t.root2 → root_power s.turn ≡ root_power t.turn → IsScalar x s → IsScalar x t
is_renamed x s t exponents turns e =
    ap (λ i. mul (denominator i) x) (sym exponents) ∙ e ∙ ap (λ i. mul (numerator i) (root_power s.turn)) exponents ∙ ap (mul (numerator t.root2)) turns

pub scaled_renamed : (n m : ℕ) (f g : List Bool → List Bool → Number) (s t : Scalar) → s.root2 ≡ t.root2 → root_power s.turn ≡ root_power t.turn → IsScaled n m f s g → IsScaled n m f t g
scaled_renamed n m f g s t exponents turns e = λ x y p q.
    ap (λ i. mul (denominator i) (f x y)) (sym exponents) ∙ e x y p q ∙ ap (λ i. mul (mul (numerator i) (root_power s.turn)) (g x y)) exponents ∙ ap (λ z. mul (mul (numerator t.root2) z) (g x y)) turns

pub is_one : IsScalar one one_scalar
is_one = ap (mul one) (sym root_power-zero)

pub is_turn : (k : ℕ) → IsScalar (root_power k) (record { root2 = pos 0; turn = k })
is_turn k = refl

-- a factor of a matrix
pub scaled_by : (n m : ℕ) (x : Number) (s : Scalar) (f : List Bool → List Bool → Number) → IsScalar x s → IsScaled n m (λ a b. mul x (f a b)) s f
scaled_by n m x s f e = λ a b p q. sym (mul_assoc (denominator s.root2) x (f a b)) ∙ ap (λ z. mul z (f a b)) e

pub is_product : (x y : Number) (s t : Scalar) → IsScalar x s → IsScalar y t → IsScalar (mul x y) (product_of_scalars s t)
is_product x y s t p q =
    let ones : List Bool → List Bool → Number = λ a b. one in
    let whole : IsScaled 0 0 (λ a b. mul x y) (product_of_scalars s t) ones =
    scaled_trans 0 0 (λ a b. mul x y) (λ a b. y) ones s t (scaled_by 0 0 x s (λ a b. y) p) (λ a b k l. q ∙ sym (mul-one _)) in
    whole [] [] refl refl ∙ mul-one _

-- x times f is y times g, where x is l, and y is s times l
pub scaled_between : (n m : ℕ) (f g : List Bool → List Bool → Number) (x y : Number) (l r s : Scalar) → IsScalar x l → IsScalar y r → s.root2 +ℤ l.root2 ≡ r.root2 → l.turn ≤ 15 → sum_of_phases s.turn l.turn ≡ r.turn % turn → ((a b : List Bool) → length a ≡ n → length b ≡ m → mul x (f a b) ≡ mul y (g a b)) → IsScaled n m f s g
scaled_between n m f g x y l r s p q exponents below turns e =
    let both : List Bool → List Bool → Number = λ a b. mul x (f a b) in
    let back : IsScaled n m f (inverse l) both = scaled_sym n m both f l (omega (arith, below)) (scaled_by n m x l f p) in
    let forth : IsScaled n m both r g = λ a b k j. ap (mul (denominator r.root2)) (e a b k j) ∙ scaled_by n m y r g q a b k j in
    let unit : mul (root_power (opposite_phase l.turn)) (root_power l.turn) ≡ one = root_power-opposite_phase l.turn (omega (arith, below)) in
    let powers : root_power r.turn ≡ mul (root_power s.turn) (root_power l.turn) =
    sym (root_power-mod r.turn) ∙ ap root_power (sym turns) ∙ root_power-sum_of_phases s.turn l.turn in
    let turned : root_power (sum_of_phases (opposite_phase l.turn) r.turn) ≡ root_power s.turn =
    root_power-sum_of_phases (opposite_phase l.turn) r.turn ∙ ap (mul (root_power (opposite_phase l.turn))) powers ∙ taken_out (root_power (opposite_phase l.turn)) (root_power s.turn) (root_power l.turn) unit in
    scaled_renamed n m f g (product_of_scalars (inverse l) r) s (omega (arith, ints, same_out _ _ exponents)) turned (scaled_trans n m f both g (inverse l) r back forth)
  where
    taken_out : (o z w : Number) → mul o w ≡ one → mul o (mul z w) ≡ z
    taken_out o z w unit =
        let sorted_out : mul o (mul z w) ≡ mul z (mul o w) = simp sorted in
        sorted_out ∙ ap (mul z) unit ∙ mul-one z
