-- Whole sums of small graphs, at all bits, and a scalar.
use Rattle.std.proofs.Common.{◌≡◌, refl, sym, ◌∙◌, ap, ℕ, Bool, true, false, ◌&&◌, ◌||◌, cond, [], ◌∷◌}
use Rattle.zx_model.specs.Number.{Number, zero, one, add, neg, mul, root_power, sign}
use Rattle.zx_model.specs.Cyclotomic.{add_cyclotomic, neg_cyclotomic, mul_cyclotomic}
use Rattle.zx_model.specs.Bits.{xor}
use Rattle.zx_model.specs.Phase.{quarter_turn, eighth_turn}
use Rattle.zx_model.specs.Constants.{i, root_of_two}
use Rattle.zx_model.proofs.Ring.{expand}
use Rattle.zx_model.proofs.Powers.{root_power-add}
use Rattle.zx_calculus.proofs.Factors.{one_minus_i}
use Rattle.zx_calculus.specs.Sum.{graph_sum, term, spider}
use Rattle.zx_calculus.specs.Tables.{hadamard_wire, controlled_z, crossing, marked_spider}

pub one_minus_i-turned : mul one_minus_i (root_power eighth_turn) ≡ root_of_two
one_minus_i-turned =
    spread i (root_power eighth_turn) ∙ ap (λ x. add (root_power eighth_turn) (neg x)) (sym (root_power-add quarter_turn eighth_turn))
  where
    spread : (j w : Number) → mul (add one (neg j)) w ≡ add w (neg (mul j w))
    spread j w = simp expand

-- at each pair of bits
pub each_two : (P : Bool → Bool → Type 0) → P false false → P false true → P true false → P true true → (x y : Bool) → P x y
each_two P a b c d false false = a
each_two P a b c d false true = b
each_two P a b c d true false = c
each_two P a b c d true true = d

pub hadamard_sum : (x y : Bool) → graph_sum hadamard_wire (x ∷ []) (y ∷ []) ≡ sign (x && y)
unfolding add neg mul root_power add_cyclotomic neg_cyclotomic mul_cyclotomic
hadamard_sum = each_two _ refl refl refl refl

pub marked_sum : (k : ℕ) (x y : Bool) → graph_sum (marked_spider k) (x ∷ []) (y ∷ []) ≡ mul (spider k x) (sign (x && y))
marked_sum k false false = simp (term, expand)
marked_sum k false true = simp (term, expand)
marked_sum k true false = simp (term, expand)
marked_sum k true true = simp (term, expand)

pub controlled_z_sum : (x0 x1 y0 y1 : Bool) → graph_sum controlled_z (x0 ∷ x1 ∷ []) (y0 ∷ y1 ∷ []) ≡ cond (xor x0 y0 || xor x1 y1) zero (sign (x0 && x1))
unfolding add neg mul root_power add_cyclotomic neg_cyclotomic mul_cyclotomic
controlled_z_sum = each_two _ (each_two _ refl refl refl refl) (each_two _ refl refl refl refl) (each_two _ refl refl refl refl) (each_two _ refl refl refl refl)

pub crossing_sum : (x0 x1 y0 y1 : Bool) → graph_sum crossing (x0 ∷ x1 ∷ []) (y0 ∷ y1 ∷ []) ≡ cond (xor x0 y1 || xor x1 y0) zero one
unfolding add neg mul root_power add_cyclotomic neg_cyclotomic mul_cyclotomic
crossing_sum = each_two _ (each_two _ refl refl refl refl) (each_two _ refl refl refl refl) (each_two _ refl refl refl refl) (each_two _ refl refl refl refl)
