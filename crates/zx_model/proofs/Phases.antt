-- Phases of half turns, and those of a quarter turn or three: what their tests say, and that the others are odd.
use Rattle.std.proofs.Common.{◌≡◌, ◌⊎◌, inl, inr, refl, sym, ◌∙◌, ℕ, ◌+◌, ◌%◌, ◌<◌, Bool, true, false, ◌||◌, eqb, eq-eqb, eqb-true, true≢false, arith}
use Rattle.std.proofs.lemmas.Bool.{cases_eq}
use Rattle.zx_model.specs.Phase.{turn, half_turn, quarter_turn, is_odd, IsHalfTurns, is_half_turns, IsQuarterTurn, is_quarter_turn}
use Rattle.zx_model.proofs.Odd.{rest-even}

or_left : (a b : Bool) → a ≡ true → (a || b) ≡ true
or_left true b e = refl
or_left false b e = cc

or_right : (a b : Bool) → b ≡ true → (a || b) ≡ true
or_right true b e = refl
or_right false b e = e

either : (a b : Bool) → (a || b) ≡ true → (a ≡ true) ⊎ (b ≡ true)
either true b e = inl refl
either false b e = inr e

one_of_two : (k a b : ℕ) → (eqb k a || eqb k b) ≡ true → (k ≡ a) ⊎ (k ≡ b)
one_of_two k a b e =
    elim (either (eqb k a) (eqb k b) e) [ inl t ↦ inl (eqb-true k a t) | inr t ↦ inr (eqb-true k b t) ]

two_of_one : (k a b : ℕ) → (k ≡ a) ⊎ (k ≡ b) → (eqb k a || eqb k b) ≡ true
two_of_one k a b (inl e) = or_left (eqb k a) (eqb k b) (eq-eqb k a e)
two_of_one k a b (inr e) = or_right (eqb k a) (eqb k b) (eq-eqb k b e)

pub half_turns_from : (k : ℕ) → is_half_turns k ≡ true → IsHalfTurns k
half_turns_from k = one_of_two k 0 half_turn

pub half_turns_to : (k : ℕ) → IsHalfTurns k → is_half_turns k ≡ true
half_turns_to k = two_of_one k 0 half_turn

pub quarter_turn_from : (k : ℕ) → is_quarter_turn k ≡ true → IsQuarterTurn k
quarter_turn_from k = one_of_two k quarter_turn (half_turn + quarter_turn)

pub quarter_turn_to : (k : ℕ) → IsQuarterTurn k → is_quarter_turn k ≡ true
quarter_turn_to k = two_of_one k quarter_turn (half_turn + quarter_turn)

-- an even phase is one of four
pub even_phases : (k : ℕ) → k < turn → is_odd k ≡ false → IsHalfTurns k ⊎ IsQuarterTurn k
even_phases k below e =
    let rest : k % quarter_turn ≡ 0 = rest-even k e in
    elim (cases_eq k 0) [
      | inl z ↦ inl (inl z)
      | inr n ↦ elim (cases_eq k half_turn) [
        | inl z ↦ inl (inr z)
        | inr m ↦ elim (cases_eq k quarter_turn) [
          | inl z ↦ inr (inl z)
          | inr l ↦ inr (inr (omega arith))
        ]
      ]
    ]

pub odd_otherwise : (k : ℕ) → k < turn → is_half_turns k ≡ false → is_quarter_turn k ≡ false → is_odd k ≡ true
odd_otherwise k below e f = by_parity (is_odd k) refl
  where
    by_parity : (odd : Bool) → is_odd k ≡ odd → odd ≡ true
    by_parity true h = refl
    by_parity false h = elim (even_phases k below h) [
      | inl half ↦ absurd (true≢false (sym (half_turns_to k half) ∙ e))
      | inr quarter ↦ absurd (true≢false (sym (quarter_turn_to k quarter) ∙ f))
    ]
