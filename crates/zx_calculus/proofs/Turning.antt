-- What turns, local complements and pivots do to the factor of one vertex, and the two identities that they
-- rest on.
use Rattle.std.proofs.Common.{◌≡◌, refl, sym, ◌∙◌, ap, ℕ, ◌<◌, Bool, true, false, ◌&&◌, List, [], ◌∷◌, arith}
use Rattle.zx_model.specs.Phase.{turn, half_turn, quarter_turn, sum_of_phases, opposite_phase}
use Rattle.zx_model.specs.Bits.{xor}
use Rattle.zx_model.specs.Number.{Number, one, add, mul, neg, sign, root_power}
use Rattle.zx_model.proofs.Ring.{mul-sign, mul_comm, mul_assoc, expand, sorted, one-mul, mul-one, add_left_comm, add-neg, add-zero}
use Rattle.zx_model.proofs.Powers.{root_power-add, root_power-half_turn, root_power-sum_of_phases, root_power-opposite_phase}
use Rattle.zx_calculus.specs.Parity.{masked}
use Rattle.zx_calculus.specs.Internal.Pairs.{quad}
use Rattle.zx_calculus.specs.Graph.{Plane, XY, XZ, YZ}
use Rattle.zx_calculus.specs.Sum.{factor, factor_in, spider}
use Rattle.zx_calculus.specs.Turns.{in_plane, quarter_turned_in, half_turned_in, complemented_in, pivoted_in}
use Rattle.zx_model.specs.Constants.{two, i}
use Rattle.zx_calculus.proofs.Factors.{one_minus_i, quarter_cost_in, half_cost_in, complement_left_in, complement_right_in, pivot_right_in}
use Rattle.zx_calculus.proofs.Booleans.{parities}
use Rattle.zx_calculus.proofs.Parity.{masked-and}
use Rattle.zx_calculus.proofs.Forms.{transform}

pub i-squared : mul i i ≡ neg one
i-squared = sym (root_power-add quarter_turn quarter_turn) ∙ root_power-half_turn

inverse : (k : ℕ) → k < turn → mul (root_power (opposite_phase k)) (root_power k) ≡ one
inverse k below = root_power-opposite_phase k (omega arith)

pub around : (a b : Number) → add a (add b (add b (neg a))) ≡ add b b
around a b = add_left_comm a b (add b (neg a)) ∙ ap (add b) (add_left_comm a b (neg a) ∙ ap (add b) (add-neg a) ∙ add-zero b)

-- laws of i, and of a number v inverse to w
module _ (j v w : Number) (jj : mul j j ≡ neg one) (vw : mul v w ≡ one) where
  jjx : (x : Number) → mul j (mul j x) ≡ neg x
  jjx x = sym (mul_assoc j j x) ∙ ap (λ y. mul y x) jj ∙ simp expand

  vwx : (x : Number) → mul v (mul w x) ≡ x
  vwx x = sym (mul_assoc v w x) ∙ ap (λ y. mul y x) vw ∙ one-mul x

  turned_back-even : mul w (add one (mul one v)) ≡ mul one (mul (add one (mul one w)) one)
  turned_back-even = simp (expand, vw, vwx)

  turned_back-odd : mul w (add one (mul (neg one) v)) ≡ mul j (mul (add one (mul (neg one) w)) j)
  turned_back-odd = simp (expand, vw, vwx, jj, jjx)

  half_back-even : mul w (add one (mul one v)) ≡ mul one (add one (mul one w))
  half_back-even = simp (expand, vw, vwx)

  half_back-odd : mul w (add one (mul (neg one) v)) ≡ mul (neg one) (add one (mul (neg one) w))
  half_back-odd = simp (expand, vw, vwx)

  half_back_XZ-even : mul w (mul (add one (mul one v)) one) ≡ mul one (mul (add one (mul one w)) one)
  half_back_XZ-even = simp (expand, vw, vwx)

  half_back_XZ-odd : mul w (mul (add one (mul (neg one) v)) j) ≡ mul (neg one) (mul (add one (mul (neg one) w)) j)
  half_back_XZ-odd = simp (expand, vw, vwx)

  -- about an XY vertex, with w' = w*i
  complement_XY-even : mul (add one j) (add one (mul w one)) ≡ mul one (mul one (add (mul (add one (mul one (mul w j))) one) (mul (mul (add one (mul (neg one) (mul w j))) j) one)))
  complement_XY-even = simp (expand, jj, jjx)

  complement_XY-odd : mul (add one j) (add one (mul w (neg one))) ≡ mul one (mul j (add (mul (add one (mul one (mul w j))) one) (mul (mul (add one (mul (neg one) (mul w j))) j) (neg one))))
  complement_XY-odd = simp (expand, jj, jjx)

  -- about an XZ vertex, with v' = i*v
  complement_XZ-even : mul one (add (mul (add one (mul one w)) one) (mul (mul (add one (mul (neg one) w)) j) one)) ≡ mul (mul (add one (neg j)) w) (mul one (add one (mul (mul j v) one)))
  complement_XZ-even = simp (expand, vw, vwx, jj, jjx)

  complement_XZ-odd : mul one (add (mul (add one (mul one w)) one) (mul (mul (add one (mul (neg one) w)) j) (neg one))) ≡ mul (mul (add one (neg j)) w) (mul j (add one (mul (mul j v) (neg one))))
  complement_XZ-odd = simp (expand, vw, vwx, jj, jjx)

  -- about a YZ vertex, where u*i is w
  complement_YZ-even : (u : Number) → mul one (add (add one (mul one w)) (mul (add one (mul (neg one) w)) one)) ≡ mul one (mul one (add (add one (mul one u)) (mul (add one (mul (neg one) u)) one)))
  complement_YZ-even u = simp expand

  complement_YZ-odd : (u : Number) → w ≡ mul j u → mul one (add (add one (mul one w)) (mul (add one (mul (neg one) w)) (neg one))) ≡ mul one (mul j (add (add one (mul one u)) (mul (add one (mul (neg one) u)) (neg one))))
  complement_YZ-odd u e = rw e (simp expand)

  pivot_YZ-odd : add (add one (mul one w)) (mul (add one (mul (neg one) w)) (neg one)) ≡ mul two w
  pivot_YZ-odd = simp expand (around one w)

  pivot_YZ-even : add (add one (mul one w)) (mul (add one (mul (neg one) w)) one) ≡ mul two one
  pivot_YZ-even = simp expand

  pivot_XZ-even : add (mul (add one (mul one w)) one) (mul (mul (add one (mul (neg one) w)) j) one) ≡ mul (mul (add one (neg j)) w) (mul (add one (mul one (mul j v))) one)
  pivot_XZ-even = simp (expand, vw, vwx, jj, jjx)

  pivot_XZ-odd : add (mul (add one (mul one w)) one) (mul (mul (add one (mul (neg one) w)) j) (neg one)) ≡ mul (mul (add one (neg j)) w) (mul (add one (mul (neg one) (mul j v))) j)
  pivot_XZ-odd = simp (expand, vw, vwx, jj, jjx)

pub quarter_factor_in : (plane : Plane) (k : ℕ) (h : Bool) → k < turn → mul (quarter_cost_in plane k) (factor (quarter_turned_in plane k) h) ≡ mul (spider quarter_turn h) (factor_in plane k h)
quarter_factor_in XY k false below = refl
quarter_factor_in XY k true below = ap (mul one) (root_power-sum_of_phases k quarter_turn) ∙ simp sorted
quarter_factor_in YZ k h below = one-mul _ ∙ mul_comm _ _
quarter_factor_in XZ k false below = turned_back-even i _ _ i-squared (inverse k below)
quarter_factor_in XZ k true below = turned_back-odd i _ _ i-squared (inverse k below)

pub half_factor_in : (plane : Plane) (k : ℕ) (h : Bool) → k < turn → mul (half_cost_in plane k) (factor (half_turned_in plane k) h) ≡ mul (sign h) (factor_in plane k h)
half_factor_in XY k false below = refl
half_factor_in XY k true below = ap (mul one) (root_power-sum_of_phases k half_turn ∙ ap (mul (root_power k)) root_power-half_turn) ∙ simp expand
half_factor_in YZ k false below = half_back-even i _ _ i-squared (inverse k below)
half_factor_in YZ k true below = half_back-odd i _ _ i-squared (inverse k below)
half_factor_in XZ k false below = half_back_XZ-even i _ _ i-squared (inverse k below)
half_factor_in XZ k true below = half_back_XZ-odd i _ _ i-squared (inverse k below)

opposite_quarter : (k : ℕ) → root_power k ≡ mul i (root_power (sum_of_phases k (opposite_phase quarter_turn)))
opposite_quarter k =
    sym (mul-one (root_power k)) ∙ ap (mul (root_power k)) (sym (inverse quarter_turn (omega arith)))
    ∙ swap _ _ _ ∙ ap (mul i) (sym (root_power-sum_of_phases k (opposite_phase quarter_turn)))
  where
    swap : (a b c : Number) → mul a (mul b c) ≡ mul c (mul a b)
    swap a b c = simp sorted

-- at the vertex that a local complement is about
pub complement_identity : (plane : Plane) (k : ℕ) (m : Bool) → k < turn →
    mul (complement_left_in plane) (transform (in_plane plane k) m) ≡ mul (complement_right_in plane k) (mul (spider quarter_turn m) (transform (complemented_in plane k) m))
complement_identity XY k false below =
    complement_XY-even i (root_power (opposite_phase k)) (root_power k) i-squared (inverse k below)
    ∙ ap (λ w. mul one (mul one (add (mul (add one (mul one w)) one) (mul (mul (add one (mul (neg one) w)) i) one)))) (sym (root_power-sum_of_phases k quarter_turn))
complement_identity XY k true below =
    complement_XY-odd i (root_power (opposite_phase k)) (root_power k) i-squared (inverse k below)
    ∙ ap (λ w. mul one (mul i (add (mul (add one (mul one w)) one) (mul (mul (add one (mul (neg one) w)) i) (neg one))))) (sym (root_power-sum_of_phases k quarter_turn))
complement_identity XZ k false below =
    complement_XZ-even i (root_power (opposite_phase k)) (root_power k) i-squared (inverse k below)
    ∙ ap (λ w. mul (mul one_minus_i (root_power k)) (mul one (add one (mul w one)))) (sym (root_power-sum_of_phases quarter_turn (opposite_phase k)))
complement_identity XZ k true below =
    complement_XZ-odd i (root_power (opposite_phase k)) (root_power k) i-squared (inverse k below)
    ∙ ap (λ w. mul (mul one_minus_i (root_power k)) (mul i (add one (mul w (neg one))))) (sym (root_power-sum_of_phases quarter_turn (opposite_phase k)))
complement_identity YZ k false below = complement_YZ-even i (root_power (opposite_phase k)) (root_power k) i-squared (inverse k below) _
complement_identity YZ k true below = complement_YZ-odd i (root_power (opposite_phase k)) (root_power k) i-squared (inverse k below) _ (opposite_quarter k)

-- at each vertex of a pivot, the new factor is the Hadamard transform of the old one
pub exchange : (plane : Plane) (k : ℕ) (h : Bool) → k < turn → transform (in_plane plane k) h ≡ mul (pivot_right_in plane k) (factor (pivoted_in plane k) h)
exchange XY k false below = exchange_even _
  where
    exchange_even : (w : Number) → add one (mul w one) ≡ mul one (add one (mul one w))
    exchange_even w = simp expand
exchange XY k true below = exchange_odd _
  where
    exchange_odd : (w : Number) → add one (mul w (neg one)) ≡ mul one (add one (mul (neg one) w))
    exchange_odd w = simp expand
exchange YZ k false below = pivot_YZ-even i _ _ i-squared (inverse k below)
exchange YZ k true below = pivot_YZ-odd i _ _ i-squared (inverse k below)
exchange XZ k false below =
    pivot_XZ-even i (root_power (opposite_phase k)) (root_power k) i-squared (inverse k below)
    ∙ ap (λ w. mul (mul one_minus_i (root_power k)) (mul (add one (mul one w)) one)) (sym (root_power-sum_of_phases quarter_turn (opposite_phase k)))
exchange XZ k true below =
    pivot_XZ-odd i (root_power (opposite_phase k)) (root_power k) i-squared (inverse k below)
    ∙ ap (λ w. mul (mul one_minus_i (root_power k)) (mul (add one (mul (neg one) w)) i)) (sym (root_power-sum_of_phases quarter_turn (opposite_phase k)))

-- a YZ vertex's transform is twice a spider on the parity of its neighbours' labels
pub gadget : (k : ℕ) (m : Bool) → transform (in_plane YZ k) m ≡ mul two (spider k m)
gadget k false = gadget-even (root_power k)
  where
    gadget-even : (w : Number) → add (add one (mul one w)) (mul (add one (mul (neg one) w)) one) ≡ mul two one
    gadget-even w = simp expand
gadget k true = gadget-odd (root_power k)
  where
    gadget-odd : (w : Number) → add (add one (mul one w)) (mul (add one (mul (neg one) w)) (neg one)) ≡ mul two w
    gadget-odd w = simp expand (around one w)

-- the product of a factor for each listed one that `near` picks, by its label
abbrev pub picked_spiders : (Bool → Number) → (ℕ → Bool) → List ℕ → (ℕ → Bool) → Number
picked_spiders s near [] label = one
picked_spiders s near (v ∷ vs) label = mul (s (near v && label v)) (picked_spiders s near vs label)

pub picked_signs : (near : ℕ → Bool) (vs : List ℕ) (label : ℕ → Bool) → picked_spiders sign near vs label ≡ sign (masked near vs label)
picked_signs near [] label = refl
picked_signs near (v ∷ vs) label = ap (mul (sign (near v && label v))) (picked_signs near vs label) ∙ mul-sign _ _

turn_step : (b m : Bool) → mul (mul (spider quarter_turn b) (sign (b && m))) (spider quarter_turn m) ≡ spider quarter_turn (xor b m)
turn_step true true = ap (λ x. x) (odd_odd i) ∙ ap neg i-squared ∙ simp expand
  where
    odd_odd : (j : Number) → mul (mul j (neg one)) j ≡ neg (mul j j)
    odd_odd j = simp expand
turn_step true false = odd_even i
  where
    odd_even : (j : Number) → mul (mul j one) one ≡ j
    odd_even j = simp expand
turn_step false m = even _
  where
    even : (j : Number) → mul (mul one one) j ≡ j
    even j = simp expand

pub regroup : (a t b q : Number) → mul (mul a t) (mul b q) ≡ mul (mul a b) (mul t q)
regroup a t b q = simp sorted

-- a quarter turn of each neighbour, and the edges between them, add up to a quarter turn of their parity
pub turn_identity : (near : ℕ → Bool) (vs : List ℕ) (label : ℕ → Bool) →
    mul (picked_spiders (spider quarter_turn) near vs label) (sign (quad (λ p q. near p && near q) vs label)) ≡ spider quarter_turn (masked near vs label)
turn_identity near [] label = one-mul one
turn_identity near (v ∷ vs) label =
    ap (λ m. mul (mul (spider quarter_turn b) rest) (sign (xor (label v && m) q))) (masked-and (near v) near vs label)
    ∙ ap (λ c. mul (mul (spider quarter_turn b) rest) (sign (xor c q))) (reorder (label v) (near v) (masked near vs label))
    ∙ ap (mul (mul (spider quarter_turn b) rest)) (sym (mul-sign (b && masked near vs label) q))
    ∙ regroup (spider quarter_turn b) rest (sign (b && masked near vs label)) (sign q)
    ∙ ap (mul (mul (spider quarter_turn b) (sign (b && masked near vs label)))) (turn_identity near vs label)
    ∙ turn_step b (masked near vs label)
  where
    b : Bool
    b = near v && label v

    rest : Number
    rest = picked_spiders (spider quarter_turn) near vs label

    q : Bool
    q = quad (λ p q. near p && near q) vs label

    reorder : (l n m : Bool) → (l && (n && m)) ≡ ((n && l) && m)
    reorder l n m = simp parities
