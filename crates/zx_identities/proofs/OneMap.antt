-- From the map of one circuit followed by the inverse of another to the maps of both.
use Rattle.std.proofs.Common.{◌≡◌, ℕ, ◌<◌, ◌*◌, ◌+ℤ◌, ◌-ℤ◌, neg_ℤ, Bool, List, [], ◌++◌, length, sym, ap, ap₂, ◌∙◌, arith}
use borrow.Author.Differences.{ints}
use Rattle.std.specs.List.{All, count_by}
use Rattle.zx_model.specs.Phase.{turn, sum_of_phases, opposite_phase}
use Rattle.zx_model.specs.Internal.Powers.{power_of_two}
use Rattle.zx_model.specs.Number.{Number, mul, root_power}
use Rattle.zx_model.specs.Proportional.{Proportional}
use Rattle.zx_model.specs.Scalar.{IsScaled, numerator, denominator, root_of_two_power, product_of_scalars, quotient_of_scalars}
use Rattle.zx_model.specs.declared.scalar.Scalar.{Scalar}
use Rattle.zx_model.proofs.Factors.{IsScalar, scaled_by, scaled_renamed}
use Rattle.zx_model.proofs.Powers.{root_power-zero, root_power-nonzero}
use Rattle.zx_model.proofs.Ring.{mul_assoc, one-mul, mul-one}
use Rattle.zx_model.proofs.Scalars.{inverse, numerator-nonzero, denominator-nonzero, scaled_sym, scaled_trans}
use Rattle.zx_model.proofs.Domain.{mul-nonzero}
use Rattle.zx_gates.specs.Circuit.{IsGateOn}
use Rattle.zx_gates.specs.Counting.{is_h}
use Rattle.zx_gates.specs.Maps.{amp, acts}
use Rattle.zx_gates.specs.declared.gate.Gate.{Gate}
use Rattle.zx_gates.proofs.MapLemmas.{amp-acts, acts-append}
use Rattle.zx_gates.proofs.Scaling.{IsTimes, root_of_two_power-twice}
use Rattle.piece_laws.specs.Replacement.{AreScaled}
use Rattle.piece_laws.proofs.Matrices.{acts-factor, proportional-acts}
use Rattle.zx_identities.specs.Inverse.{inverse_of, undone_scalar}
use Rattle.zx_identities.proofs.Undoing.{inverse-inverse, All-inverse, power-nonzero, times_doubled, times_doubled-inverse, undone_times}

-- the maps of circuits, from that of the one followed by the inverse of the other, which doubles for each H of the other
undone_both : (n : ℕ) (first second : List Gate) → All (IsGateOn n) second → (p : Proportional n n (amp (first ++ inverse_of second)) (amp []))
    → (x y : List Bool) → length x ≡ n → mul (mul p.left (power_of_two (times_doubled second))) (amp first x y) ≡ mul p.right (amp second x y)
undone_both n first second on p x y lx =
    mul_assoc p.left doubled (amp first x y)
    ∙ ap (mul p.left) (ap (mul doubled) (amp-acts first x y) ∙ sym through)
    ∙ proportional-acts n (first ++ inverse_of second) [] p (acts second start) x lx
    ∙ ap (mul p.right) (sym (amp-acts second x y))
  where
    doubled : Number
    doubled = power_of_two (times_doubled second)

    start : List Bool → Number
    start z = amp [] z y

    back : IsTimes n doubled (λ f. acts (inverse_of second) (acts second f)) (λ f. f)
    back f z lz =
        (λ i. sym (acts-append (inverse_of second) second f) i z)
        ∙ ap (λ gates. acts (inverse_of second ++ gates) f z) (sym (inverse-inverse n second on))
        ∙ undone_times n (inverse_of second) (All-inverse n second on) f z lz
        ∙ ap (λ k. mul (power_of_two k) (f z)) (times_doubled-inverse n second on)

    through : acts (first ++ inverse_of second) (acts second start) x ≡ mul doubled (acts first start x)
    through =
        (λ i. acts-append first (inverse_of second) (acts second start) i x)
        ∙ acts-factor n first doubled (acts (inverse_of second) (acts second start)) start (λ z lz. back start z lz) x lx

-- circuits of which one undoes the other, up to a scalar, have one map
pub one_map : (n : ℕ) (first second : List Gate) → All (IsGateOn n) second →
    Proportional n n (amp (first ++ inverse_of second)) (amp []) → Proportional n n (amp first) (amp second)
one_map n first second on p = record {
  left = mul p.left (power_of_two (times_doubled second));
  right = p.right;
  left_nonzero = mul-nonzero p.left (power_of_two (times_doubled second)) p.left_nonzero (power-nonzero (times_doubled second));
  right_nonzero = p.right_nonzero;
  equal = λ x y lx ly. undone_both n first second on p x y lx;
}

-- where the one followed by the inverse of the other is a number, its map is that of the other times the number, halved for each H of the other
pub one_map_scaled : (n : ℕ) (first second : List Gate) (s : Scalar) → All (IsGateOn n) second →
    IsScaled n n (amp (first ++ inverse_of second)) s (amp []) →
    IsScaled n n (amp first) (quotient_of_scalars s (undone_scalar second)) (amp second)
one_map_scaled n first second s on e =
    scaled_renamed n n (amp first) (amp second) (product_of_scalars (inverse d) s) (quotient_of_scalars s d) exponents
    (ap root_power turns)
    (scaled_trans n n (amp first) both (amp second) (inverse d) s (scaled_sym n n both (amp first) d below (scaled_by n n k d (amp first) is))
    (λ x y lx ly. sym (mul_assoc (denominator s.root2) k (amp first x y)) ∙ undone_both n first second on p x y lx))
  where
    p : Proportional n n (amp (first ++ inverse_of second)) (amp [])
    p = record {
      left = denominator s.root2;
      right = mul (numerator s.root2) (root_power s.turn);
      left_nonzero = denominator-nonzero s.root2;
      right_nonzero = mul-nonzero _ _ (numerator-nonzero s.root2) (root_power-nonzero s.turn);
      equal = e;
    }

    d : Scalar
    d = undone_scalar second

    k : Number
    k = power_of_two (times_doubled second)

    both : List Bool → List Bool → Number
    both x y = mul k (amp first x y)

    is : IsScalar k d
    is = one-mul k ∙ sym (mul-one k) ∙ ap₂ mul (sym (root_of_two_power-twice (times_doubled second))) (sym root_power-zero)

    below : d.turn < turn
    below = omega arith

    exponents : neg_ℤ d.root2 +ℤ s.root2 ≡ s.root2 -ℤ d.root2
    exponents = omega (arith, ints)

    turns : sum_of_phases (opposite_phase d.turn) s.turn ≡ sum_of_phases s.turn (opposite_phase d.turn)
    turns = omega arith

-- a list followed by its inverse, with the number
pub undone_scaled : (n : ℕ) (gates : List Gate) → All (IsGateOn n) gates → AreScaled n (gates ++ inverse_of gates) (undone_scalar gates) []
undone_scaled n gates on = λ x y lx ly.
    one-mul (amp (gates ++ inverse_of gates) x y)
    ∙ amp-acts (gates ++ inverse_of gates) x y
    ∙ undone_times n gates on (λ z. amp [] z y) x lx
    ∙ ap (λ t. mul t (amp [] x y))
    (sym (ap (mul (root_of_two_power (2 * count_by is_h gates))) root_power-zero ∙ mul-one _ ∙ root_of_two_power-twice (count_by is_h gates)))
