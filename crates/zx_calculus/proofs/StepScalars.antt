-- The scalar of each rewrite is that between the sums before and after.
use Rattle.std.proofs.Common.{◌≡◌, refl, sym, ◌∙◌, ap, ap₂, arith, ℕ, pos, negsuc, Bool, true, false, cond, ◌&&◌, ◌||◌, eqb, ne_eqb, true≢false, subst, filter, List, [], ◌∷◌, ◌++◌, length}
use borrow.Author.Differences.{ints}
use Rattle.zx_model.specs.Number.{Number, one, add, neg, mul, root_power}
use Rattle.zx_model.specs.Cyclotomic.{add_cyclotomic, neg_cyclotomic, mul_cyclotomic}
use Rattle.zx_model.specs.Bits.{member}
use Rattle.zx_model.specs.Phase.{half_turn, quarter_turn, sum_of_phases}
use Rattle.zx_model.specs.Constants.{two, i, root_of_two}
use Rattle.zx_model.specs.Scalar.{IsScaled, IsWithin, one_scalar, product_of_scalars}
use Rattle.zx_model.specs.declared.scalar.Scalar.{Scalar}
use Rattle.zx_model.proofs.Ring.{mul-one, one-mul}
use Rattle.zx_model.proofs.Powers.{root_power-zero, root_power-sum_of_phases}
use Rattle.zx_model.proofs.Scalars.{root_of_two_squared, within_product}
use Rattle.zx_model.proofs.Factors.{IsScalar, is_one, is_turn, is_product, is_renamed, scaled_between}
use Rattle.zx_calculus.specs.Graph.{Graph, Plane, XY, XZ, YZ, Kind, Vertex, Distinct, WellFormed, ids, joined, kind_of, neighbours, plane_of, phase_of}
use Rattle.zx_calculus.proofs.Ids.{eqb-self, by_test, and-left, member-filter, Distinct-rising}
use Rattle.zx_calculus.proofs.Booleans.{or-true}
use Rattle.zx_calculus.specs.Sum.{graph_sum}
use Rattle.zx_calculus.specs.Scalars.{root_of_two_to, turn_by, quarter_power, quarter_power_in, half_power, half_power_in, sum_of_powers, quarter_powers, half_powers}
use Rattle.zx_calculus.specs.Complements.{complement_scalar_in}
use Rattle.zx_calculus.specs.Deletions.{delete_scalar_in}
use Rattle.zx_calculus.specs.Pivots.{common_neighbours, pivot_scalar_in}
use Rattle.zx_calculus.specs.Splits.{mark_of, split_scalar}
use Rattle.zx_calculus.proofs.Factors.{one_plus_i, one_minus_i, quarter_cost, quarter_cost_in, half_cost, half_cost_in, product_of, complement_left_in, complement_right_in, delete_half_in, pivot_right_in, pivot_right, split_left, IsExact}
use Rattle.zx_calculus.specs.Steps.{Step, LocalComplement, Delete, Pivot, SplitInput, SplitOutput, DropLone, FuseInto, FuseTwin}
use Rattle.zx_calculus.specs.StepScalars.{step_scalar}

-- ---- numbers with a name
two_is : IsScalar two (root_of_two_to (pos 2))
two_is = one-mul two ∙ sym root_of_two_squared ∙ ap (mul root_of_two) (sym (mul-one root_of_two)) ∙ sym (mul-one _) ∙ ap (mul (mul root_of_two (mul root_of_two one))) (sym root_power-zero)

one_plus_i-turned : mul root_of_two (root_power 2) ≡ one_plus_i
unfolding add mul neg root_power add_cyclotomic neg_cyclotomic mul_cyclotomic
one_plus_i-turned = refl

one_minus_i-turned : mul root_of_two (root_power 14) ≡ one_minus_i
unfolding add mul neg root_power add_cyclotomic neg_cyclotomic mul_cyclotomic
one_minus_i-turned = refl

single_root : (k : ℕ) → mul (mul root_of_two one) (root_power k) ≡ mul root_of_two (root_power k)
single_root k = ap (λ x. mul x (root_power k)) (mul-one root_of_two)

one_plus_i-is : IsScalar one_plus_i (record { root2 = pos 1; turn = 2 })
one_plus_i-is = one-mul one_plus_i ∙ sym one_plus_i-turned ∙ sym (single_root 2)

one_minus_i-is : IsScalar one_minus_i (record { root2 = pos 1; turn = 14 })
one_minus_i-is = one-mul one_minus_i ∙ sym one_minus_i-turned ∙ sym (single_root 14)

-- ---- products over vertices
pub powers_same : (f g : ℕ → ℕ) (ps : List ℕ) → ((p : ℕ) → member p ps ≡ true → f p ≡ g p) → sum_of_powers f ps ≡ sum_of_powers g ps
powers_same f g [] same = refl
powers_same f g (p ∷ ps) same =
    ap₂ sum_of_phases (same p (ap (λ b. b || member p ps) (eqb-self p))) (powers_same f g ps (λ q m. same q (ap (λ b. eqb q p || b) m ∙ or-true (eqb q p))))

-- a product over vertices is one over their ids
power_is : (near : ℕ → Bool) (cost : Kind → Number) (power : Kind → ℕ) (vs : List Vertex) → Distinct (ids vs) → ((k : Kind) → cost k ≡ root_power (power k)) → product_of near cost vs ≡ root_power (sum_of_powers (λ p. power (kind_of vs p)) (filter near (ids vs)))
power_is near cost power [] distinct each = sym root_power-zero
power_is near cost power (v ∷ vs) distinct each =
    let rest : List ℕ = filter near (ids vs) in
    let same : sum_of_powers (λ p. power (kind_of vs p)) rest ≡ sum_of_powers (λ p. power (kind_of (v ∷ vs) p)) rest =
    powers_same _ _ rest (λ p m. sym (ap (λ b. power (cond b v.kind (kind_of vs p))) (apart p (and-left _ _ (sym (member-filter near (ids vs) p) ∙ m))))) in
    let tail : product_of near cost vs ≡ root_power (sum_of_powers (λ p. power (kind_of (v ∷ vs) p)) rest) = power_is near cost power vs distinct.1 each ∙ ap root_power same in
    by_test (near v.id)
    (λ t. rw t (ap₂ mul (each v.kind ∙ ap (λ b. root_power (power (cond b v.kind (kind_of vs v.id)))) (sym (eqb-self v.id))) tail ∙ sym (root_power-sum_of_phases _ (sum_of_powers (λ p. power (kind_of (v ∷ vs) p)) rest))))
    (λ t. rw t (one-mul _ ∙ tail))
  where
    apart : (p : ℕ) → member p (ids vs) ≡ true → eqb p v.id ≡ false
    apart p m = ne_eqb p v.id (λ e. true≢false (sym m ∙ ap (λ q. member q (ids vs)) e ∙ distinct.0))

filter_twice : (a b : ℕ → Bool) (ps : List ℕ) → filter (λ p. a p && b p) ps ≡ filter b (filter a ps)
filter_twice a b [] = refl
filter_twice a b (p ∷ ps) =
    by_test (a p)
    (λ t. by_test (b p) (λ u. rw (t, u) (ap (λ qs. p ∷ qs) (filter_twice a b ps))) (λ u. rw (t, u) (filter_twice a b ps)))
    (λ t. rw t (filter_twice a b ps))

quarter_in : (plane : Plane) (k : ℕ) → quarter_cost_in plane k ≡ root_power (quarter_power_in plane k)
quarter_in XY k = sym root_power-zero
quarter_in YZ k = sym root_power-zero
quarter_in XZ k = refl

half_in : (plane : Plane) (k : ℕ) → half_cost_in plane k ≡ root_power (half_power_in plane k)
half_in XY k = sym root_power-zero
half_in YZ k = refl
half_in XZ k = refl

product_is : (near : ℕ → Bool) (cost : Kind → Number) (power : Kind → ℕ) (vs : List Vertex) → Distinct (ids vs) → ((k : Kind) → cost k ≡ root_power (power k)) → IsScalar (product_of near cost vs) (turn_by (sum_of_powers (λ p. power (kind_of vs p)) (filter near (ids vs))))
product_is near cost power vs distinct each = ap (mul one) (power_is near cost power vs distinct each)

turned_minus : (k : ℕ) → IsScalar (mul one_minus_i (root_power k)) (record { root2 = pos 1; turn = sum_of_phases k 14 })
turned_minus k =
    let swapped : sum_of_phases 14 k ≡ sum_of_phases k 14 = omega arith in
    is_renamed _ (record { root2 = pos 1; turn = sum_of_phases 14 k }) (record { root2 = pos 1; turn = sum_of_phases k 14 }) refl (ap root_power swapped) (is_product one_minus_i (root_power k) (record { root2 = pos 1; turn = 14 }) (turn_by k) one_minus_i-is (is_turn k))

pivot_own-is : (plane : Plane) (k : ℕ) → IsScalar (pivot_right_in plane k) (pivot_scalar_in plane k)
pivot_own-is XY k = is_one
pivot_own-is XZ k = turned_minus k
pivot_own-is YZ k = two_is

delete_own-is : (plane : Plane) → IsScalar (delete_half_in plane) (delete_scalar_in plane)
delete_own-is XY = two_is
delete_own-is XZ = is_product two i (root_of_two_to (pos 2)) (turn_by quarter_turn) two_is (is_turn quarter_turn)
delete_own-is YZ = two_is

-- ---- each rewrite
abbrev Matrix : Type 0
Matrix = List Bool → List Bool → Number

complement-scaled : (n m : ℕ) (f g : Matrix) (plane : Plane) (k t : ℕ) (p : Number) → IsScalar p (turn_by t) → ((x y : List Bool) → length x ≡ n → length y ≡ m → mul (complement_left_in plane) (f x y) ≡ mul (mul (complement_right_in plane k) p) (g x y)) → IsScaled n m f (product_of_scalars (complement_scalar_in plane k) (turn_by t)) g
complement-scaled n m f g XY k t p q e =
    scaled_between n m f g one_plus_i (mul one p) (record { root2 = pos 1; turn = 2 }) (product_of_scalars one_scalar (turn_by t)) (product_of_scalars (complement_scalar_in XY k) (turn_by t)) one_plus_i-is (is_product one p one_scalar (turn_by t) is_one q) refl (omega arith) (omega arith) e
complement-scaled n m f g XZ k t p q e =
    scaled_between n m f g one (mul (complement_right_in XZ k) p) one_scalar (product_of_scalars (complement_scalar_in XZ k) (turn_by t)) (product_of_scalars (complement_scalar_in XZ k) (turn_by t)) is_one (is_product (complement_right_in XZ k) p (complement_scalar_in XZ k) (turn_by t) (turned_minus k) q) refl (omega arith) (omega arith) e
complement-scaled n m f g YZ k t p q e =
    scaled_between n m f g one (mul one p) one_scalar (product_of_scalars one_scalar (turn_by t)) (product_of_scalars one_scalar (turn_by t)) is_one (is_product one p one_scalar (turn_by t) is_one q) refl (omega arith) (omega arith) e

-- where the factor before is 1, the scalar is what the factor after is
after-scaled : (n m : ℕ) (f g : Matrix) (y : Number) (s : Scalar) → IsScalar y s → ((a b : List Bool) → length a ≡ n → length b ≡ m → mul one (f a b) ≡ mul y (g a b)) → IsScaled n m f s g
after-scaled n m f g y s p e =
    scaled_between n m f g one y one_scalar s s is_one p (omega (arith, ints)) (omega arith) (omega arith) e

-- where it is 2, that by a half
half-scaled : (n m : ℕ) (f g : Matrix) (y : Number) (s : Scalar) → IsScalar y s → ((a b : List Bool) → length a ≡ n → length b ≡ m → mul two (f a b) ≡ mul y (g a b)) → IsScaled n m f (product_of_scalars (root_of_two_to (negsuc 1)) s) g
half-scaled n m f g y s p e =
    scaled_between n m f g two y (root_of_two_to (pos 2)) s (product_of_scalars (root_of_two_to (negsuc 1)) s) two_is p (omega (arith, ints)) (omega arith) (omega arith) e

delete-scaled : (n m : ℕ) (f g : Matrix) (b : Bool) (plane : Plane) (t : ℕ) (p : Number) → IsScalar p (turn_by t) → ((x y : List Bool) → length x ≡ n → length y ≡ m → mul one (f x y) ≡ mul (cond b (mul (delete_half_in plane) p) two) (g x y)) → IsScaled n m f (cond b (product_of_scalars (delete_scalar_in plane) (turn_by t)) (root_of_two_to (pos 2))) g
delete-scaled n m f g true plane t p q e =
    after-scaled n m f g (mul (delete_half_in plane) p) (product_of_scalars (delete_scalar_in plane) (turn_by t)) (is_product (delete_half_in plane) p (delete_scalar_in plane) (turn_by t) (delete_own-is plane) q) e
delete-scaled n m f g false plane t p q e = after-scaled n m f g two (root_of_two_to (pos 2)) two_is e

split-scaled : (n m : ℕ) (f g : Matrix) (hadamard : Bool) → ((x y : List Bool) → length x ≡ n → length y ≡ m → mul (split_left hadamard) (f x y) ≡ mul one (g x y)) → IsScaled n m f (split_scalar hadamard) g
split-scaled n m f g true e = after-scaled n m f g one one_scalar is_one e
split-scaled n m f g false e = half-scaled n m f g one one_scalar is_one e

pub step_scaled : (g : Graph) (s : Step) (h : Graph) → WellFormed g → IsExact g s h → IsScaled (length g.inputs) (length g.outputs) (graph_sum g) (step_scalar g s) (graph_sum h)
step_scaled g (LocalComplement u) h w e =
    complement-scaled _ _ (graph_sum g) (graph_sum h) (plane_of g u) (phase_of g u) (quarter_powers g (neighbours g u)) _ (product_is (joined g.edges u) quarter_cost quarter_power g.vertices (Distinct-rising _ w.vertices_rising) (λ k. quarter_in k.plane k.phase)) e
step_scaled g (Delete u) h w e =
    delete-scaled _ _ (graph_sum g) (graph_sum h) (eqb (phase_of g u) half_turn) (plane_of g u) (half_powers g (neighbours g u)) _ (product_is (joined g.edges u) half_cost half_power g.vertices (Distinct-rising _ w.vertices_rising) (λ k. half_in k.plane k.phase)) e
step_scaled g (Pivot u v) h w e =
    let near : ℕ → Bool = λ p. joined g.edges u p && joined g.edges v p in
    let own_u : Scalar = pivot_scalar_in (plane_of g u) (phase_of g u) in
    let own_v : Scalar = pivot_scalar_in (plane_of g v) (phase_of g v) in
    let turns : Scalar = turn_by (half_powers g (common_neighbours g u v)) in
    let common : IsScalar (product_of near half_cost g.vertices) turns =
    subst (λ ps. IsScalar (product_of near half_cost g.vertices) (turn_by (half_powers g ps))) (filter_twice (joined g.edges u) (joined g.edges v) (ids g.vertices)) (product_is near half_cost half_power g.vertices (Distinct-rising _ w.vertices_rising) (λ k. half_in k.plane k.phase)) in
    half-scaled _ _ (graph_sum g) (graph_sum h) (pivot_right g u v) (product_of_scalars (product_of_scalars own_u own_v) turns) (is_product _ _ (product_of_scalars own_u own_v) turns (is_product _ _ own_u own_v (pivot_own-is (plane_of g u) (phase_of g u)) (pivot_own-is (plane_of g v) (phase_of g v))) common) e
step_scaled g (SplitInput b) h w e = split-scaled _ _ (graph_sum g) (graph_sum h) (mark_of g.inputs b) e
step_scaled g (SplitOutput b) h w e = split-scaled _ _ (graph_sum g) (graph_sum h) (mark_of g.outputs b) e
step_scaled g (DropLone u) h w e = after-scaled _ _ (graph_sum g) (graph_sum h) two (root_of_two_to (pos 2)) two_is e
step_scaled g (FuseInto u) h w e = after-scaled _ _ (graph_sum g) (graph_sum h) two (root_of_two_to (pos 2)) two_is e
step_scaled g (FuseTwin u v) h w e = after-scaled _ _ (graph_sum g) (graph_sum h) two (root_of_two_to (pos 2)) two_is e

-- ---- how large they are
own_complement-within : (plane : Plane) (k : ℕ) → IsWithin 2 (complement_scalar_in plane k)
own_complement-within XY k = omega arith
own_complement-within XZ k = omega arith
own_complement-within YZ k = omega arith

delete-within : (b : Bool) (plane : Plane) (t : ℕ) → IsWithin 2 (cond b (product_of_scalars (delete_scalar_in plane) (turn_by t)) (root_of_two_to (pos 2)))
delete-within true XY t = omega arith
delete-within true XZ t = omega arith
delete-within true YZ t = omega arith
delete-within false plane t = omega arith

pivot-within : (p q : Plane) (k j t : ℕ) → IsWithin 2 (product_of_scalars (root_of_two_to (negsuc 1)) (product_of_scalars (product_of_scalars (pivot_scalar_in p k) (pivot_scalar_in q j)) (turn_by t)))
pivot-within XY XY k j t = omega arith
pivot-within XY XZ k j t = omega arith
pivot-within XY YZ k j t = omega arith
pivot-within XZ XY k j t = omega arith
pivot-within XZ XZ k j t = omega arith
pivot-within XZ YZ k j t = omega arith
pivot-within YZ XY k j t = omega arith
pivot-within YZ XZ k j t = omega arith
pivot-within YZ YZ k j t = omega arith

split-within : (hadamard : Bool) → IsWithin 2 (split_scalar hadamard)
split-within true = omega arith
split-within false = omega arith

pub step_within : (g : Graph) (s : Step) → IsWithin 2 (step_scalar g s)
step_within g (LocalComplement u) = within_product 2 0 (complement_scalar_in (plane_of g u) (phase_of g u)) (turn_by (quarter_powers g (neighbours g u))) (own_complement-within (plane_of g u) (phase_of g u)) (omega arith)
step_within g (Delete u) = delete-within (eqb (phase_of g u) half_turn) (plane_of g u) (half_powers g (neighbours g u))
step_within g (Pivot u v) = pivot-within (plane_of g u) (plane_of g v) (phase_of g u) (phase_of g v) (half_powers g (common_neighbours g u v))
step_within g (SplitInput b) = split-within (mark_of g.inputs b)
step_within g (SplitOutput b) = split-within (mark_of g.outputs b)
step_within g (DropLone u) = omega arith
step_within g (FuseInto u) = omega arith
step_within g (FuseTwin u v) = omega arith

-- ---- sums of powers
pub powers-more : (power : ℕ → ℕ) (ps : List ℕ) (p : ℕ) → sum_of_powers power (ps ++ p ∷ []) ≡ sum_of_phases (sum_of_powers power ps) (power p)
powers-more power [] p = omega arith
powers-more power (q ∷ qs) p = ap (sum_of_phases (power q)) (powers-more power qs p) ∙ shifted (power q) (sum_of_powers power qs) (power p)
  where
    shifted : (a b c : ℕ) → sum_of_phases a (sum_of_phases b c) ≡ sum_of_phases (sum_of_phases a b) c
    shifted a b c = omega arith
