-- Which phases are odd: turning by quarters changes nothing, and neither does an even phase that is added.
use Rattle.std.proofs.Common.{◌≡◌, refl, ◌∙◌, sym, ap, ℕ, ◌+◌, ◌%◌, ◌<◌, ◌≤◌, Bool, true, false, not, eqb, inl, inr, arith}
use Rattle.std.proofs.lemmas.Bool.{eq-eqb, ne_eqb, cases_eq}
use Rattle.zx_model.specs.Phase.{turn, half_turn, quarter_turn, sum_of_phases, opposite_phase, is_odd}
use Rattle.zx_model.specs.Bits.{one_if}

-- two numbers are 0 together, or neither is
eqb-zero : (m n : ℕ) → (m ≡ 0 → n ≡ 0) → (n ≡ 0 → m ≡ 0) → not (eqb m 0) ≡ not (eqb n 0)
eqb-zero m n there back = elim (cases_eq n 0) [
  | inl z ↦ ap not (eq-eqb m 0 (back z) ∙ sym (eq-eqb n 0 z))
  | inr some ↦ ap not (ne_eqb m 0 (λ e. some (there e)) ∙ sym (ne_eqb n 0 some))
]

pub is_odd-sum_quarter : (k : ℕ) → is_odd (sum_of_phases k quarter_turn) ≡ is_odd k
is_odd-sum_quarter k = eqb-zero (sum_of_phases k quarter_turn % quarter_turn) (k % quarter_turn) (λ e. omega arith) (λ e. omega arith)

pub is_odd-sum_half : (k : ℕ) → is_odd (sum_of_phases k half_turn) ≡ is_odd k
is_odd-sum_half k = eqb-zero (sum_of_phases k half_turn % quarter_turn) (k % quarter_turn) (λ e. omega arith) (λ e. omega arith)

-- the opposite of a phase is odd exactly where the phase is
pub is_odd-opposite : (k : ℕ) → k < turn → is_odd (opposite_phase k) ≡ is_odd k
is_odd-opposite k h = eqb-zero (opposite_phase k % quarter_turn) (k % quarter_turn) (λ e. omega arith) (λ e. omega arith)

pub is_odd-quarter_minus : (k : ℕ) → k < turn → is_odd (sum_of_phases quarter_turn (opposite_phase k)) ≡ is_odd k
is_odd-quarter_minus k h =
    eqb-zero (sum_of_phases quarter_turn (opposite_phase k) % quarter_turn) (k % quarter_turn) (λ e. omega arith) (λ e. omega arith)

pub is_odd-minus_quarter : (k : ℕ) → is_odd (sum_of_phases k (opposite_phase quarter_turn)) ≡ is_odd k
is_odd-minus_quarter k =
    eqb-zero (sum_of_phases k (opposite_phase quarter_turn) % quarter_turn) (k % quarter_turn) (λ e. omega arith) (λ e. omega arith)

-- what is left of a phase at quarter turns
pub rest-even : (k : ℕ) → is_odd k ≡ false → k % quarter_turn ≡ 0
rest-even k e = elim (cases_eq (k % quarter_turn) 0) [
  | inl z ↦ z
  | inr some ↦ absurd (let h : true ≡ false = ap not (sym (ne_eqb (k % quarter_turn) 0 some)) ∙ e in cc)
]

-- an even phase that is added changes nothing
pub is_odd-sum_even : (j k : ℕ) → is_odd k ≡ false → is_odd (sum_of_phases j k) ≡ is_odd j
is_odd-sum_even j k even =
    let rest : k % quarter_turn ≡ 0 = rest-even k even in
    eqb-zero (sum_of_phases j k % quarter_turn) (j % quarter_turn) (λ e. omega arith) (λ e. omega arith)

-- of two phases, the sum is odd only where one of them is
pub one_if-odd_sum : (j k : ℕ) → one_if (is_odd (sum_of_phases j k)) ≤ one_if (is_odd j) + one_if (is_odd k)
one_if-odd_sum j k = by_cases (is_odd (sum_of_phases j k)) (is_odd j) (is_odd k)
    (λ e f. ap not (eq-eqb (sum_of_phases j k % quarter_turn) 0 (sum_even (rest-even j e) (rest-even k f))))
  where
    sum_even : j % quarter_turn ≡ 0 → k % quarter_turn ≡ 0 → sum_of_phases j k % quarter_turn ≡ 0
    sum_even e f = omega arith

    by_cases : (s a b : Bool) → (a ≡ false → b ≡ false → s ≡ false) → one_if s ≤ one_if a + one_if b
    by_cases s true b h = at_most s (one_if b)
      where
        at_most : (s : Bool) (n : ℕ) → one_if s ≤ 1 + n
        at_most true n = omega arith
        at_most false n = omega arith
    by_cases true false true h = omega arith
    by_cases false false true h = omega arith
    by_cases s false false h = rw (h refl refl) (omega arith)
