-- Lowering keeps the linear map up to a scalar, and the number of odd phases.
use Rattle.std.proofs.Common.{◌≡◌, ◌≢◌, ℕ, ◌+◌, ◌*◌, ◌<◌, ◌≤◌, get_or, take, add-one, ◌%◌, Bool, true, false, cond, eqb, List, [], ◌∷◌, ◌++◌, length, set, refl, sym, ap, ap₂, ◌∙◌, subst, le_of_eq, arith}
use Rattle.std.specs.List.{All}
use Rattle.std.proofs.Math.Seq.{take-length, take-suc}
use Rattle.std.proofs.lemmas.List.{flat_map_more}
use Rattle.std.proofs.lemmas.List.Elements.{All-head, All-tail}
use Rattle.std.proofs.lemmas.List.Sums.{sum_by-append, sum_by-cons}
use Rattle.std.proofs.lemmas.Bool.{eqb-true, ne_eqb, eqb-false}
use Rattle.zx_model.specs.Phase.{turn, half_turn, quarter_turn, eighth_turn, sum_of_phases, opposite_phase}
use Rattle.zx_model.specs.Number.{Number, zero, one, add, neg, mul, root_power}
use Rattle.zx_model.specs.Constants.{two, root_of_two}
use Rattle.zx_model.specs.Bits.{bit, one_if}
use Rattle.zx_model.specs.Proportional.{Proportional}
use Rattle.zx_model.specs.Scalar.{root_of_two_power, numerator, denominator, IsScaled, IsWithin, most_root2, one_scalar, product_of_scalars}
use Rattle.zx_model.specs.declared.scalar.Scalar.{Scalar}
use Rattle.zx_model.proofs.Ring.{expand, sorted, one-mul, mul-one, mul_assoc, mul_comm, mul_left_comm, mul-zero, add-neg}
use Rattle.zx_model.proofs.Odd.{is_odd-sum_half, is_odd-sum_quarter, is_odd-minus_quarter}
use Rattle.zx_model.proofs.Powers.{root_power-add, root_power-mod, root_power-sum_of_phases, root_power-half_turn, root_power-zero}
use Rattle.zx_model.proofs.Scalars.{root_of_two_squared, scaled_proportional}
use Rattle.zx_gates.specs.Circuit.{Circuit, gate_odd_phases, is_odd_phase}
use Rattle.zx_gates.specs.Maps.{Matrix, amp, act, acts, act_on}
use Rattle.zx_gates.specs.Passes.{Implements}
use Rattle.zx_gates.specs.Elementary.{elementary_bound, IsElementaryGateOn, difference_of_phases, odd_of, odd_elementary, elementary_odd_phases}
use Rattle.zx_gates.specs.ElementaryMaps.{unitary, act_elementary, amp_elementary}
use Rattle.zx_gates.specs.Internal.Lowering.{acts_elementary}
use Rattle.zx_gates.specs.Lowering.{phase_gates, lowered_gate, lowered}
use Rattle.zx_gates.specs.Internal.Lowering.{lowering_scalar, unitary_scalar}
use Rattle.zx_gates.specs.declared.gate.Gate.{Gate}
use Rattle.zx_gates.specs.declared.gate.Gate.TheVariants.{H, Phase, Not}
use Rattle.zx_gates.specs.declared.elementary.ElementaryGate.{ElementaryGate}
use Rattle.zx_gates.specs.declared.elementary.ElementaryGate.TheVariants.{U, Cx}
use Rattle.zx_gates.proofs.MapLemmas.{acts-append, act-phase-zero}
use Rattle.zx_gates.proofs.Multiples.{acts-factor}
use Rattle.zx_gates.proofs.Scaling.{IsTimes, Scaled, scaled-refl, scaled-then, scaled_if_times, scaled_amp}
use Rattle.zx_model.proofs.Scalars.{within_product}
use Rattle.zx_gates.proofs.UnitaryLemmas.{HasRows, act_on-rows, turned, mixed, exchanged, set_phase, set_hadamard, set_exchange, at_phase, none_mixed, one_mixed, two_mixed, one_exchanged}

-- ---- the five lists
choose : {A : Type 0} (P : A → Type 0) (t : Bool) (x y : A) → (t ≡ true → P x) → (t ≡ false → P y) → P (cond t x y)
choose P true x y h k = h refl
choose P false x y h k = k refl

-- a phase gate, H, and a phase gate
abbrev turn_gates : ℕ → ℕ → ℕ → List Gate
turn_gates q j k = phase_gates q j ++ H q ∷ phase_gates q k

-- what holds of each of the five lists, where it is the one, holds of the list that stands for U
pub by_angle : (P : List Gate → Type 0) (q a b c : ℕ)
    → (a ≡ 0 → P (phase_gates q (sum_of_phases b c)))
    → (a ≡ quarter_turn → P (turn_gates q (sum_of_phases c half_turn) b))
    → (a ≡ half_turn → P (phase_gates q (sum_of_phases (difference_of_phases c b) half_turn) ++ Not q ∷ []))
    → (a ≡ half_turn + quarter_turn → P (turn_gates q c (sum_of_phases b half_turn)))
    → (a ≢ 0 → a ≢ quarter_turn → a ≢ half_turn → a ≢ half_turn + quarter_turn → P (turn_gates q (sum_of_phases c (opposite_phase quarter_turn)) a ++ H q ∷ phase_gates q (sum_of_phases b quarter_turn)))
    → P (lowered_gate (U q a b c))
by_angle P q a b c none quarter half three other =
    choose P (eqb a 0) _ _ (λ e. none (eqb-true a 0 e)) (λ not_none.
    choose P (eqb a quarter_turn) _ _ (λ e. quarter (eqb-true a quarter_turn e)) (λ not_quarter.
    choose P (eqb a half_turn) _ _ (λ e. half (eqb-true a half_turn e)) (λ not_half.
    choose P (eqb a (half_turn + quarter_turn)) _ _ (λ e. three (eqb-true a (half_turn + quarter_turn) e)) (λ not_three.
    other (eqb-false a 0 not_none) (eqb-false a quarter_turn not_quarter) (eqb-false a half_turn not_half) (eqb-false a (half_turn + quarter_turn) not_three)))))

-- ---- odd phases
pub gate_odd_phases-append : (xs ys : List Gate) → gate_odd_phases (xs ++ ys) ≡ gate_odd_phases xs + gate_odd_phases ys
gate_odd_phases-append xs ys = sum_by-append (λ g. cond (is_odd_phase g) 1 0) xs ys

pub odd-phase_gates : (q k : ℕ) → gate_odd_phases (phase_gates q k) ≡ odd_of k
odd-phase_gates q k =
    choose (λ gs. gate_odd_phases gs ≡ odd_of k) (eqb k 0) _ _ (λ e. ap odd_of (sym (eqb-true k 0 e))) (λ _. omega arith)

odd-turn_gates : (q j k : ℕ) → gate_odd_phases (turn_gates q j k) ≡ odd_of j + odd_of k
odd-turn_gates q j k =
    omega (arith, gate_odd_phases-append (phase_gates q j) (H q ∷ phase_gates q k), odd-phase_gates q j, odd-phase_gates q k)

odd-half : (k : ℕ) → odd_of (sum_of_phases k half_turn) ≡ odd_of k
odd-half k = ap one_if (is_odd-sum_half k)

odd-quarter : (k : ℕ) → odd_of (sum_of_phases k quarter_turn) ≡ odd_of k
odd-quarter k = ap one_if (is_odd-sum_quarter k)

odd-minus_quarter : (k : ℕ) → odd_of (sum_of_phases k (opposite_phase quarter_turn)) ≡ odd_of k
odd-minus_quarter k = ap one_if (is_odd-minus_quarter k)

odd-two_turns : (q a b c : ℕ)
    → gate_odd_phases (turn_gates q (sum_of_phases c (opposite_phase quarter_turn)) a ++ H q ∷ phase_gates q (sum_of_phases b quarter_turn))
    ≡ odd_of a + odd_of b + odd_of c
odd-two_turns q a b c =
    omega (
      arith,
      gate_odd_phases-append (turn_gates q (sum_of_phases c (opposite_phase quarter_turn)) a) (H q ∷ phase_gates q (sum_of_phases b quarter_turn)),
      odd-turn_gates q (sum_of_phases c (opposite_phase quarter_turn)) a,
      odd-phase_gates q (sum_of_phases b quarter_turn),
      odd-minus_quarter c,
      odd-quarter b,
    )

odd_elementary-other : (q a b c : ℕ) → a ≢ 0 → a ≢ half_turn → odd_elementary (U q a b c) ≡ odd_of a + odd_of b + odd_of c
odd_elementary-other q a b c not_none not_half = rw (ne_eqb a 0 not_none, ne_eqb a half_turn not_half) refl

odd_lowered_gate : (gate : ElementaryGate) → gate_odd_phases (lowered_gate gate) ≡ odd_elementary gate
odd_lowered_gate (Cx control target) = refl
odd_lowered_gate (U q a b c) =
    by_angle (λ gs. gate_odd_phases gs ≡ odd_elementary (U q a b c)) q a b c
    (λ e. rw e (odd-phase_gates q (sum_of_phases b c)))
    (λ e. rw e (omega (arith, odd-turn_gates q (sum_of_phases c half_turn) b, odd-half c)))
    (λ e. rw e (omega (arith, gate_odd_phases-append (phase_gates q (sum_of_phases (difference_of_phases c b) half_turn)) (Not q ∷ []), odd-phase_gates q (sum_of_phases (difference_of_phases c b) half_turn), odd-half (difference_of_phases c b))))
    (λ e. rw e (omega (arith, odd-turn_gates q c (sum_of_phases b half_turn), odd-half b)))
    (λ not_none _ not_half _. odd-two_turns q a b c ∙ sym (odd_elementary-other q a b c not_none not_half))

pub odd_lowered : (gates : List ElementaryGate) → gate_odd_phases (lowered gates) ≡ elementary_odd_phases gates
odd_lowered [] = refl
odd_lowered (gate ∷ gates) =
    gate_odd_phases-append (lowered_gate gate) (lowered gates)
    ∙ ap₂ (λ m n. m + n) (odd_lowered_gate gate) (odd_lowered gates)
    ∙ sym (sum_by-cons odd_elementary gate gates)

-- ---- maps
pub acts-phase_gates : (q k : ℕ) (f : List Bool → Number) → acts (phase_gates q k) f ≡ act (Phase q k) f
acts-phase_gates q k f =
    choose (λ gs. acts gs f ≡ act (Phase q k) f) (eqb k 0) _ _ (λ e. sym (act-phase-zero q f) ∙ ap (λ j. act (Phase q j) f) (sym (eqb-true k 0 e))) (λ _. refl)

acts-turn_gates : (q j k : ℕ) (f : List Bool → Number) → acts (turn_gates q j k) f ≡ act (Phase q j) (act (H q) (act (Phase q k) f))
acts-turn_gates q j k f =
    acts-append (phase_gates q j) (H q ∷ phase_gates q k) f
    ∙ acts-phase_gates q j (act (H q) (acts (phase_gates q k) f))
    ∙ ap (λ g. act (Phase q j) (act (H q) g)) (acts-phase_gates q k f)

by_phase : (n q : ℕ) (m : Matrix) (d : Number) (k : ℕ) → HasRows m d zero zero (mul d (root_power k))
    → IsTimes n d (act_on m q) (acts (phase_gates q k))
by_phase n q m d k rows f x l =
    act_on-rows m d zero zero (mul d (root_power k)) rows q f x
    ∙ none_mixed d (root_power k) (λ b. f (set x q b)) (bit x q)
    ∙ ap (mul d) (sym (at_phase q k f (λ b. f (set x q b)) x (λ b. refl)) ∙ ap (λ g. g x) (sym (acts-phase_gates q k f)))

by_exchange : (n q : ℕ) (m : Matrix) (d : Number) (k : ℕ) → q < n → HasRows m zero (mul d (root_power k)) d zero
    → IsTimes n d (act_on m q) (acts (phase_gates q k ++ Not q ∷ []))
by_exchange n q m d k below rows f x l = let within : q < length x = omega arith in
    act_on-rows m zero (mul d (root_power k)) d zero rows q f x
    ∙ one_exchanged d (root_power k) (λ b. f (set x q b)) (bit x q)
    ∙ ap (mul d) (sym (at_phase q k (act (Not q) f) (exchanged (λ b. f (set x q b))) x (set_exchange q f (λ b. f (set x q b)) x within (λ b. refl)))
    ∙ ap (λ g. g x) (sym (acts-append (phase_gates q k) (Not q ∷ []) f ∙ acts-phase_gates q k (act (Not q) f))))

by_turn : (n q : ℕ) (m : Matrix) (d : Number) (j k : ℕ) → q < n
    → HasRows m d (mul d (root_power j)) (mul d (root_power k)) (neg (mul d (mul (root_power j) (root_power k))))
    → IsTimes n d (act_on m q) (acts (turn_gates q j k))
by_turn n q m d j k below rows f x l = let within : q < length x = omega arith in
    let g : Bool → Number = λ b. f (set x q b) in
    act_on-rows m _ _ _ _ rows q f x
    ∙ one_mixed d (root_power j) (root_power k) g (bit x q)
    ∙ ap (mul d) (sym (at_phase q j (act (H q) (act (Phase q k) f)) (mixed (turned (root_power k) g)) x
    (set_hadamard q (act (Phase q k) f) (turned (root_power k) g) x within
    (set_phase q k f g x within (λ b. refl))))
    ∙ ap (λ h. h x) (sym (acts-turn_gates q j k f)))

by_two_turns : (n q : ℕ) (m : Matrix) (j k l : ℕ) → q < n
    → HasRows m (add one (root_power k)) (neg (mul (root_power j) (add (root_power k) (neg one)))) (neg (mul (root_power l) (add (root_power k) (neg one)))) (mul (mul (root_power j) (root_power l)) (add one (root_power k)))
    → IsTimes n one (act_on m q) (acts (turn_gates q j k ++ H q ∷ phase_gates q l))
by_two_turns n q m j k l below rows f x lx = let within : q < length x = omega arith in
    let g : Bool → Number = λ b. f (set x q b) in
    let last : List Bool → Number = act (H q) (act (Phase q l) f) in
    let at_last : (b : Bool) → last (set x q b) ≡ mixed (turned (root_power l) g) b =
    set_hadamard q (act (Phase q l) f) (turned (root_power l) g) x within (set_phase q l f g x within (λ b. refl)) in
    act_on-rows m _ _ _ _ rows q f x
    ∙ two_mixed (root_power j) (root_power k) (root_power l) g (bit x q)
    ∙ ap (mul one) (sym (at_phase q j (act (H q) (act (Phase q k) last)) (mixed (turned (root_power k) (mixed (turned (root_power l) g)))) x
    (set_hadamard q (act (Phase q k) last) (turned (root_power k) (mixed (turned (root_power l) g))) x within
    (set_phase q k last (mixed (turned (root_power l) g)) x within at_last)))
    ∙ ap (λ h. h x) (sym (acts-append (turn_gates q j k) (H q ∷ phase_gates q l) f
    ∙ ap (λ h. acts (turn_gates q j k) (act (H q) h)) (acts-phase_gates q l f)
    ∙ acts-turn_gates q j k last)))

-- ---- the rows of U, by z^a, z^b and z^c
power_of_three_quarters : root_power (half_turn + quarter_turn) ≡ neg (root_power quarter_turn)
power_of_three_quarters = root_power-add half_turn quarter_turn ∙ ap (λ s. mul s (root_power quarter_turn)) root_power-half_turn ∙ simp expand

square : mul (root_power quarter_turn) (root_power quarter_turn) ≡ neg one
square = sym (root_power-add quarter_turn quarter_turn) ∙ root_power-half_turn

power-half : (k : ℕ) → root_power (sum_of_phases k half_turn) ≡ neg (root_power k)
power-half k = root_power-sum_of_phases k half_turn ∙ ap (mul (root_power k)) root_power-half_turn ∙ simp expand

power-three_quarters : (k : ℕ) → root_power (k + (half_turn + quarter_turn)) ≡ mul (root_power k) (neg (root_power quarter_turn))
power-three_quarters k = root_power-add k (half_turn + quarter_turn) ∙ ap (mul (root_power k)) power_of_three_quarters

power-minus_quarter : (k : ℕ) → root_power (sum_of_phases k (opposite_phase quarter_turn)) ≡ mul (root_power k) (neg (root_power quarter_turn))
power-minus_quarter k = root_power-sum_of_phases k (opposite_phase quarter_turn) ∙ ap (mul (root_power k)) power_of_three_quarters

-- products of phases around i, where i*i = -1
apart : (b c i : Number) → mul (mul c (neg i)) (mul b i) ≡ neg (mul (mul b c) (mul i i))
apart b c i = simp expand

together : (b c i : Number) → mul i i ≡ neg one → mul b c ≡ mul (mul c (neg i)) (mul b i)
together b c i e = sym (apart b c i ∙ ap (λ s. neg (mul (mul b c) s)) e ∙ simp expand)

spread : (c j : Number) → mul (mul c j) (add j (neg one)) ≡ add (mul c (mul j j)) (neg (mul c j))
spread c j = simp expand

gathered : (c j : Number) → mul j j ≡ neg one → mul (mul c j) (add j (neg one)) ≡ mul (add one j) (neg c)
gathered c j e = spread c j ∙ ap (λ s. add (mul c s) (neg (mul c j))) e ∙ simp expand

neg_out : (c i s : Number) → mul (mul c i) s ≡ neg (mul (mul c (neg i)) s)
neg_out c i s = simp expand

neg_in : (b i s : Number) → mul (mul b (neg i)) s ≡ neg (mul (mul b i) s)
neg_in b i s = simp expand

rows_of_two_turns : (a b c : ℕ) → (p r : Number) → p ≡ mul (root_power c) (neg (root_power quarter_turn)) → r ≡ mul (root_power b) (root_power quarter_turn)
    → HasRows (unitary a b c) (add one (root_power a)) (neg (mul p (add (root_power a) (neg one)))) (neg (mul r (add (root_power a) (neg one)))) (mul (mul p r) (add one (root_power a)))
rows_of_two_turns a b c p r ep er = record {
  first = refl;
  second = ap (λ s. mul s (add (root_power a) (neg one))) (root_power-add c quarter_turn)
      ∙ neg_out (root_power c) (root_power quarter_turn) (add (root_power a) (neg one))
      ∙ ap (λ s. neg (mul s (add (root_power a) (neg one)))) (sym ep);
  third = ap (λ s. mul s (add (root_power a) (neg one))) (power-three_quarters b)
      ∙ neg_in (root_power b) (root_power quarter_turn) (add (root_power a) (neg one))
      ∙ ap (λ s. neg (mul s (add (root_power a) (neg one)))) (sym er);
  fourth = ap (λ s. mul s (add one (root_power a))) (root_power-add b c ∙ together (root_power b) (root_power c) (root_power quarter_turn) square ∙ ap₂ mul (sym ep) (sym er));
}

-- the rows where z^a is j
rows_of_turn : (a b c : ℕ) (j p r : Number) → root_power a ≡ j
    → mul (root_power (c + quarter_turn)) (add j (neg one)) ≡ mul (add one j) p
    → mul (root_power (b + (half_turn + quarter_turn))) (add j (neg one)) ≡ mul (add one j) r
    → mul (root_power b) (root_power c) ≡ neg (mul p r)
    → HasRows (unitary a b c) (add one j) (mul (add one j) p) (mul (add one j) r) (neg (mul (add one j) (mul p r)))
rows_of_turn a b c j p r is second third product = record {
  first = ap (add one) is;
  second = ap (λ s. mul (root_power (c + quarter_turn)) (add s (neg one))) is ∙ second;
  third = ap (λ s. mul (root_power (b + (half_turn + quarter_turn))) (add s (neg one))) is ∙ third;
  fourth = ap₂ mul (root_power-add b c) (ap (add one) is) ∙ ap (λ s. mul s (add one j)) product ∙ simp expand;
}

double_neg : (d b : Number) → neg (mul d (neg b)) ≡ mul d b
double_neg d b = simp expand

-- a quarter turn about the y axis
rows_of_quarter : (a b c : ℕ) → a ≡ quarter_turn → (d : Number) → d ≡ add one (root_power quarter_turn)
    → HasRows (unitary a b c) d (mul d (root_power (sum_of_phases c half_turn))) (mul d (root_power b)) (neg (mul d (mul (root_power (sum_of_phases c half_turn)) (root_power b))))
rows_of_quarter a b c e d is = rw is (rows_of_turn a b c (root_power quarter_turn) (root_power (sum_of_phases c half_turn)) (root_power b) (ap root_power e)
    (ap (λ s. mul s (add (root_power quarter_turn) (neg one))) (root_power-add c quarter_turn)
    ∙ gathered (root_power c) (root_power quarter_turn) square
    ∙ ap (mul (add one (root_power quarter_turn))) (sym (power-half c)))
    (ap (λ s. mul s (add (root_power quarter_turn) (neg one))) (power-three_quarters b)
    ∙ neg_in (root_power b) (root_power quarter_turn) (add (root_power quarter_turn) (neg one))
    ∙ ap neg (gathered (root_power b) (root_power quarter_turn) square)
    ∙ double_neg (add one (root_power quarter_turn)) (root_power b))
    (mul_comm (root_power b) (root_power c) ∙ minus_left (root_power c) (root_power b) ∙ ap (λ s. neg (mul s (root_power b))) (sym (power-half c))))
  where
    minus_left : (c b : Number) → mul c b ≡ neg (mul (neg c) b)
    minus_left c b = simp expand

-- three quarter turns
rows_of_three_quarters : (a b c : ℕ) → a ≡ half_turn + quarter_turn → (d : Number) → d ≡ add one (neg (root_power quarter_turn))
    → HasRows (unitary a b c) d (mul d (root_power c)) (mul d (root_power (sum_of_phases b half_turn))) (neg (mul d (mul (root_power c) (root_power (sum_of_phases b half_turn)))))
rows_of_three_quarters a b c e d is = rw is (rows_of_turn a b c j (root_power c) (root_power (sum_of_phases b half_turn)) (ap root_power e ∙ power_of_three_quarters)
    (ap (λ s. mul s (add j (neg one))) (root_power-add c quarter_turn)
    ∙ neg_out (root_power c) (root_power quarter_turn) (add j (neg one))
    ∙ ap neg (gathered (root_power c) j square_j)
    ∙ double_neg (add one j) (root_power c))
    (ap (λ s. mul s (add j (neg one))) (power-three_quarters b)
    ∙ gathered (root_power b) j square_j
    ∙ ap (mul (add one j)) (sym (power-half b)))
    (mul_comm (root_power b) (root_power c) ∙ minus_right (root_power c) (root_power b) ∙ ap (λ s. neg (mul (root_power c) s)) (sym (power-half b))))
  where
    j : Number
    j = neg (root_power quarter_turn)

    minus_right : (c b : Number) → mul c b ≡ neg (mul c (neg b))
    minus_right c b = simp expand

    squares : (i : Number) → mul (neg i) (neg i) ≡ mul i i
    squares i = simp expand

    square_j : mul j j ≡ neg one
    square_j = squares (root_power quarter_turn) ∙ square

-- no turn
rows_of_none : (a b c : ℕ) → a ≡ 0 → HasRows (unitary a b c) (add one one) zero zero (mul (add one one) (root_power (sum_of_phases b c)))
rows_of_none a b c e =
    let is : root_power a ≡ one = ap root_power e ∙ root_power-zero in
    record {
      first = ap (add one) is;
      second = ap (λ s. mul (root_power (c + quarter_turn)) (add s (neg one))) is ∙ ap (mul (root_power (c + quarter_turn))) (add-neg one) ∙ mul-zero (root_power (c + quarter_turn));
      third = ap (λ s. mul (root_power (b + (half_turn + quarter_turn))) (add s (neg one))) is ∙ ap (mul (root_power (b + (half_turn + quarter_turn)))) (add-neg one) ∙ mul-zero (root_power (b + (half_turn + quarter_turn)));
      fourth = ap₂ mul (sym (root_power-mod (b + c))) (ap (add one) is) ∙ mul_comm (root_power (sum_of_phases b c)) (add one one);
    }

-- half a turn
crossed : (b c : ℕ) → root_power (c + quarter_turn) ≡ mul (root_power (b + (half_turn + quarter_turn))) (root_power (sum_of_phases (difference_of_phases c b) half_turn))
crossed b c =
    sym (root_power-mod (c + quarter_turn))
    ∙ ap root_power (let h : (c + quarter_turn) % turn ≡ ((b + (half_turn + quarter_turn)) + sum_of_phases (difference_of_phases c b) half_turn) % turn = omega arith in h)
    ∙ root_power-mod ((b + (half_turn + quarter_turn)) + sum_of_phases (difference_of_phases c b) half_turn)
    ∙ root_power-add (b + (half_turn + quarter_turn)) (sum_of_phases (difference_of_phases c b) half_turn)

rows_of_half : (a b c : ℕ) → a ≡ half_turn → (d : Number) → d ≡ mul (root_power (b + (half_turn + quarter_turn))) (add (neg one) (neg one))
    → HasRows (unitary a b c) zero (mul d (root_power (sum_of_phases (difference_of_phases c b) half_turn))) d zero
rows_of_half a b c e d d_is =
    let is : root_power a ≡ neg one = ap root_power e ∙ root_power-half_turn in
    record {
      first = ap (add one) is ∙ add-neg one;
      second = ap (λ s. mul (root_power (c + quarter_turn)) (add s (neg one))) is
          ∙ ap (λ s. mul s (add (neg one) (neg one))) (crossed b c)
          ∙ turned_about (root_power (b + (half_turn + quarter_turn))) (root_power (sum_of_phases (difference_of_phases c b) half_turn)) (add (neg one) (neg one))
          ∙ ap (λ s. mul s (root_power (sum_of_phases (difference_of_phases c b) half_turn))) (sym d_is);
      third = ap (λ s. mul (root_power (b + (half_turn + quarter_turn))) (add s (neg one))) is ∙ sym d_is;
      fourth = ap (λ s. mul (root_power (b + c)) (add one s)) is ∙ ap (mul (root_power (b + c))) (add-neg one) ∙ mul-zero (root_power (b + c));
    }
  where
    turned_about : (s t u : Number) → mul (mul s t) u ≡ mul (mul s u) t
    turned_about s t u = simp sorted

-- ---- the factors
squared : root_of_two_power 2 ≡ two
squared = ap (mul root_of_two) (mul-one root_of_two) ∙ root_of_two_squared

factor_of_none : two ≡ mul (root_of_two_power 2) (root_power 0)
factor_of_none = sym (ap₂ mul squared root_power-zero ∙ mul-one two)

-- the root of two by w and i, where w*w = i
root_of_two-is : root_of_two ≡ add (root_power eighth_turn) (neg (mul (root_power eighth_turn) (root_power quarter_turn)))
root_of_two-is = ap (λ s. add (root_power eighth_turn) (neg s)) (root_power-add eighth_turn quarter_turn)

eighths : mul (root_power eighth_turn) (root_power eighth_turn) ≡ root_power quarter_turn
eighths = sym (root_power-add eighth_turn eighth_turn)

spread_quarter : (w i : Number) → mul (mul (add w (neg (mul w i))) one) w ≡ add (mul w w) (neg (mul (mul w w) i))
spread_quarter w i = simp expand

by_quarter : (w i : Number) → mul w w ≡ i → mul i i ≡ neg one → add one i ≡ mul (mul (add w (neg (mul w i))) one) w
by_quarter w i e square = sym (spread_quarter w i ∙ ap (λ s. add s (neg (mul s i))) e ∙ ap (λ s. add i (neg s)) square ∙ simp expand)

spread_three_quarters : (w i : Number) → mul (mul (add w (neg (mul w i))) one) (neg (mul w i)) ≡ add (neg (mul (mul w w) i)) (mul (mul w w) (mul i i))
spread_three_quarters w i = simp expand

by_three_quarters : (w i : Number) → mul w w ≡ i → mul i i ≡ neg one → add one (neg i) ≡ mul (mul (add w (neg (mul w i))) one) (neg (mul w i))
by_three_quarters w i e square =
    sym (spread_three_quarters w i ∙ ap (λ s. add (neg (mul s i)) (mul s (mul i i))) e ∙ ap (λ s. add (neg s) (mul i s)) square ∙ simp expand)

factor_of_quarter : add one (root_power quarter_turn) ≡ mul (root_of_two_power 1) (root_power eighth_turn)
factor_of_quarter =
    by_quarter (root_power eighth_turn) (root_power quarter_turn) eighths square
    ∙ ap (λ s. mul (mul s one) (root_power eighth_turn)) (sym root_of_two-is)

power_of_seven_eighths : root_power (opposite_phase eighth_turn) ≡ neg (mul (root_power eighth_turn) (root_power quarter_turn))
power_of_seven_eighths =
    root_power-add (half_turn + quarter_turn) eighth_turn
    ∙ ap (λ s. mul s (root_power eighth_turn)) power_of_three_quarters
    ∙ turned_round (root_power quarter_turn) (root_power eighth_turn)
  where
    turned_round : (i w : Number) → mul (neg i) w ≡ neg (mul w i)
    turned_round i w = simp expand

factor_of_three_quarters : add one (neg (root_power quarter_turn)) ≡ mul (root_of_two_power 1) (root_power (opposite_phase eighth_turn))
factor_of_three_quarters =
    by_three_quarters (root_power eighth_turn) (root_power quarter_turn) eighths square
    ∙ ap₂ (λ s t. mul (mul s one) t) (sym root_of_two-is) (sym power_of_seven_eighths)

minus_two_times : (i : Number) → mul (neg i) (add (neg one) (neg one)) ≡ mul two i
minus_two_times i = simp expand

minus_two : mul (root_power (half_turn + quarter_turn)) (add (neg one) (neg one)) ≡ mul (root_of_two_power 2) (root_power quarter_turn)
minus_two =
    ap (λ s. mul s (add (neg one) (neg one))) power_of_three_quarters
    ∙ minus_two_times (root_power quarter_turn)
    ∙ ap (λ s. mul s (root_power quarter_turn)) (sym squared)

factor_of_half : (b : ℕ) → mul (root_power (b + (half_turn + quarter_turn))) (add (neg one) (neg one))
    ≡ mul (root_of_two_power 2) (root_power (sum_of_phases b quarter_turn))
factor_of_half b =
    ap (λ s. mul s (add (neg one) (neg one))) (root_power-add b (half_turn + quarter_turn))
    ∙ mul_assoc (root_power b) (root_power (half_turn + quarter_turn)) (add (neg one) (neg one))
    ∙ ap (mul (root_power b)) minus_two
    ∙ mul_left_comm (root_power b) (root_of_two_power 2) (root_power quarter_turn)
    ∙ ap (mul (root_of_two_power 2)) (sym (root_power-sum_of_phases b quarter_turn))

unitary_scalar-other : (a b : ℕ) → a ≢ 0 → a ≢ quarter_turn → a ≢ half_turn → a ≢ half_turn + quarter_turn → unitary_scalar a b ≡ one_scalar
unitary_scalar-other a b none quarter half three =
    rw (ne_eqb a 0 none, ne_eqb a quarter_turn quarter, ne_eqb a half_turn half, ne_eqb a (half_turn + quarter_turn) three) refl

-- ---- gates and lists
-- a scalar that belongs to an angle
at_angle : (n : ℕ) (F G : (List Bool → Number) → List Bool → Number) (a b angle : ℕ) → a ≡ angle → Scaled n F (unitary_scalar angle b) G
    → Scaled n F (unitary_scalar a b) G
at_angle n F G a b angle e p = subst (λ k. Scaled n F (unitary_scalar k b) G) (sym e) p

scaled_unitary : (n q a b c : ℕ) → q < n → Scaled n (act_on (unitary a b c) q) (unitary_scalar a b) (acts (lowered_gate (U q a b c)))
scaled_unitary n q a b c below =
    by_angle (λ gs. Scaled n (act_on (unitary a b c) q) (unitary_scalar a b) (acts gs)) q a b c
    (λ e. at_angle n _ _ a b 0 e (scaled_if_times n _ _ two 2 0 factor_of_none
    (by_phase n q (unitary a b c) two (sum_of_phases b c) (rows_of_none a b c e))))
    (λ e. at_angle n _ _ a b quarter_turn e (scaled_if_times n _ _ (add one (root_power quarter_turn)) 1 eighth_turn factor_of_quarter
    (by_turn n q (unitary a b c) (add one (root_power quarter_turn)) (sum_of_phases c half_turn) b below (rows_of_quarter a b c e _ refl))))
    (λ e. at_angle n _ _ a b half_turn e (scaled_if_times n _ _ half 2 (sum_of_phases b quarter_turn) (factor_of_half b)
    (by_exchange n q (unitary a b c) half (sum_of_phases (difference_of_phases c b) half_turn) below (rows_of_half a b c e _ refl))))
    (λ e. at_angle n _ _ a b (half_turn + quarter_turn) e (scaled_if_times n _ _ (add one (neg (root_power quarter_turn))) 1 (opposite_phase eighth_turn) factor_of_three_quarters
    (by_turn n q (unitary a b c) (add one (neg (root_power quarter_turn))) c (sum_of_phases b half_turn) below (rows_of_three_quarters a b c e _ refl))))
    (λ none quarter not_half three. subst (λ s. Scaled n (act_on (unitary a b c) q) s (acts others)) (sym (unitary_scalar-other a b none quarter not_half three))
    (scaled_if_times n _ _ one 0 0 factor_of_others
    (by_two_turns n q (unitary a b c) (sum_of_phases c (opposite_phase quarter_turn)) a (sum_of_phases b quarter_turn) below
    (rows_of_two_turns a b c _ _ (power-minus_quarter c) (root_power-sum_of_phases b quarter_turn)))))
  where
    half : Number
    half = mul (root_power (b + (half_turn + quarter_turn))) (add (neg one) (neg one))

    others : List Gate
    others = turn_gates q (sum_of_phases c (opposite_phase quarter_turn)) a ++ H q ∷ phase_gates q (sum_of_phases b quarter_turn)

    factor_of_others : one ≡ mul (root_of_two_power 0) (root_power 0)
    factor_of_others = sym root_power-zero ∙ sym (one-mul (root_power 0))

pub scaled_gate : (n : ℕ) (gate : ElementaryGate) → IsElementaryGateOn n gate → Scaled n (act_elementary gate) (lowering_scalar gate) (acts (lowered_gate gate))
scaled_gate n (U q a b c) on = scaled_unitary n q a b c on
scaled_gate n (Cx control target) on = scaled-refl n (act_elementary (Cx control target))

pub acts_elementary-append : (first second : List ElementaryGate) (f : List Bool → Number) → acts_elementary (first ++ second) f ≡ acts_elementary first (acts_elementary second f)
acts_elementary-append [] second f = refl
acts_elementary-append (gate ∷ first) second f = ap (act_elementary gate) (acts_elementary-append first second f)

-- one gate more behind a list, and its gates behind those of the list
pub scaled_more : (n : ℕ) (before : List ElementaryGate) (gate : ElementaryGate) (s : Scalar) → IsElementaryGateOn n gate
    → Scaled n (acts_elementary before) s (acts (lowered before))
    → Scaled n (acts_elementary (before ++ gate ∷ [])) (product_of_scalars s (lowering_scalar gate)) (acts (lowered (before ++ gate ∷ [])))
scaled_more n before gate s on p = record {
  equal = λ f x l.
      ap (λ h. mul (denominator t.root2) (h x)) (acts_elementary-append before (gate ∷ []) f)
      ∙ joined.equal f x l
      ∙ ap (λ h. mul (mul (numerator t.root2) (root_power t.turn)) (h x)) (sym (acts-append (lowered before) (lowered_gate gate) f) ∙ ap (λ gs. acts gs f) (flat_map_more lowered_gate [] before gate));
}
  where
    t : Scalar
    t = product_of_scalars s (lowering_scalar gate)

    joined : Scaled n (λ f. acts_elementary before (act_elementary gate f)) t (λ f. acts (lowered before) (acts (lowered_gate gate) f))
    joined = scaled-then n (acts_elementary before) (act_elementary gate) (acts (lowered before)) (acts (lowered_gate gate)) s (lowering_scalar gate)
        (acts-factor n (lowered before)) p (scaled_gate n gate on)

-- an entry is what the gates make of the entry of the empty list
pub amp_elementary-acts : (gates : List ElementaryGate) (x y : List Bool) → amp_elementary gates x y ≡ acts_elementary gates (λ z. amp_elementary [] z y) x
amp_elementary-acts [] x y = refl
amp_elementary-acts (gate ∷ gates) x y = λ i. act_elementary gate (λ z. amp_elementary-acts gates z y i) x

pub scaled_lowered : (n : ℕ) (gates : List ElementaryGate) (s : Scalar) → Scaled n (acts_elementary gates) s (acts (lowered gates))
    → IsScaled n n (amp_elementary gates) s (amp (lowered gates))
scaled_lowered n gates s p = scaled_amp n (amp_elementary gates) (acts_elementary gates) s (lowered gates) (amp_elementary-acts gates) p

-- the scalar of a list
abbrev whole_scalar : List ElementaryGate → Scalar
whole_scalar [] = one_scalar
whole_scalar (gate ∷ gates) = product_of_scalars (lowering_scalar gate) (whole_scalar gates)

scaled_gates : (n : ℕ) (gates : List ElementaryGate) → All (IsElementaryGateOn n) gates → Scaled n (acts_elementary gates) (whole_scalar gates) (acts (lowered gates))
scaled_gates n [] on = scaled-refl n (λ f. f)
scaled_gates n (gate ∷ gates) on =
    subst (Scaled n (acts_elementary (gate ∷ gates)) (whole_scalar (gate ∷ gates))) (λ i f. sym (acts-append (lowered_gate gate) (lowered gates) f) i)
    (scaled-then n (act_elementary gate) (acts_elementary gates) (acts (lowered_gate gate)) (acts (lowered gates)) (lowering_scalar gate) (whole_scalar gates)
    (acts-factor n (lowered_gate gate)) (scaled_gate n gate (All-head (IsElementaryGateOn n) gate gates on))
    (scaled_gates n gates (All-tail (IsElementaryGateOn n) gate gates on)))

pub proportional_lowered : (n : ℕ) (gates : List ElementaryGate) → All (IsElementaryGateOn n) gates → Proportional n n (amp_elementary gates) (amp (lowered gates))
proportional_lowered n gates on =
    scaled_proportional n n (amp_elementary gates) (amp (lowered gates)) (whole_scalar gates) (scaled_lowered n gates (whole_scalar gates) (scaled_gates n gates on))

-- ---- how large the scalars are
within_unitary : (a b : ℕ) → IsWithin 2 (unitary_scalar a b)
within_unitary a b =
    choose (IsWithin 2) (eqb a 0) _ _ (λ _. omega arith) (λ _.
    choose (IsWithin 2) (eqb a quarter_turn) _ _ (λ _. omega arith) (λ _.
    choose (IsWithin 2) (eqb a half_turn) _ _ (λ _. omega arith) (λ _.
    choose (IsWithin 2) (eqb a (half_turn + quarter_turn)) _ _ (λ _. omega arith) (λ _. omega arith))))

pub within_lowering : (gate : ElementaryGate) → IsWithin 2 (lowering_scalar gate)
within_lowering (U q a b c) = within_unitary a b
within_lowering (Cx control target) = omega arith

-- ---- the loop over the gates
-- what holds after the first gates
pub record IsLoweredTo (n : ℕ) (gates : List ElementaryGate) (i : ℕ) (list : List Gate) (s : Scalar) : Type 0 where
  pub gates_are : list ≡ lowered (take i gates)
  pub scaled : Scaled n (acts_elementary (take i gates)) s (acts (lowered (take i gates)))
  pub within : IsWithin (2 * i) s

pub lowered_none : (n : ℕ) (gates : List ElementaryGate) → IsLoweredTo n gates 0 [] one_scalar
lowered_none n gates = record { gates_are = refl; scaled = scaled-refl n (λ f. f); within = omega arith }

pub lowered_more : (n : ℕ) (gates : List ElementaryGate) (i : ℕ) (gate : ElementaryGate) (list list' : List Gate) (s : Scalar) → i < length gates
    → gate ≡ get_or gates i gate → All (IsElementaryGateOn n) gates → list' ≡ list ++ lowered_gate gate → IsLoweredTo n gates i list s
    → IsLoweredTo n gates (i + 1) list' (product_of_scalars s (lowering_scalar gate))
lowered_more n gates i gate list list' s inside is on more d = record {
  gates_are = more ∙ ap (λ xs. xs ++ lowered_gate gate) d.gates_are ∙ flat_map_more lowered_gate [] (take i gates) gate ∙ ap lowered (sym one_more);
  scaled = subst (λ xs. Scaled n (acts_elementary xs) (product_of_scalars s (lowering_scalar gate)) (acts (lowered xs))) (sym one_more)
      (scaled_more n (take i gates) gate s (subst (IsElementaryGateOn n) (sym is) (on i gate inside)) d.scaled);
  within = let h : 2 * (i + 1) ≡ 2 * i + 2 = omega arith in
      subst (λ k. IsWithin k (product_of_scalars s (lowering_scalar gate))) (sym h) (within_product (2 * i) 2 s (lowering_scalar gate) d.within (within_lowering gate));
}
  where
    one_more : take (i + 1) gates ≡ take i gates ++ gate ∷ []
    one_more = rw add-one (take-suc gates i gate inside) ∙ ap (λ g. take i gates ++ g ∷ []) (sym is)

-- where all gates are lowered
pub lowered_implements : (n : ℕ) (gates : List ElementaryGate) (i : ℕ) (made : Circuit) (s : Scalar) → i ≡ length gates → made.qubits ≡ n
    → IsLoweredTo n gates i made.gates s → Implements n (amp_elementary gates) (elementary_odd_phases gates) (2 * length gates) made s
lowered_implements n gates i made s whole qubits d = record {
  qubits = qubits;
  scaled = subst (λ xs. IsScaled n n (amp_elementary gates) s (amp xs)) (sym list)
      (scaled_lowered n gates s (subst (λ xs. Scaled n (acts_elementary xs) s (acts (lowered xs))) all d.scaled));
  small = subst (λ k. IsWithin (2 * k) s) whole d.within;
  odd = subst (λ xs. gate_odd_phases xs ≤ elementary_odd_phases gates) (sym list) (le_of_eq (odd_lowered gates));
}
  where
    all : take i gates ≡ gates
    all = ap (λ k. take k gates) whole ∙ take-length gates

    list : made.gates ≡ lowered gates
    list = d.gates_are ∙ ap lowered all

-- the exponent fits
pub lowered_within : (n : ℕ) (gates : List ElementaryGate) (i : ℕ) (gate : ElementaryGate) (list : List Gate) (s : Scalar) → i < length gates → length gates < elementary_bound
    → IsLoweredTo n gates i list s → IsWithin most_root2 (product_of_scalars s (lowering_scalar gate))
lowered_within n gates i gate list s inside few d = omega (arith, within_product (2 * i) 2 s (lowering_scalar gate) d.within (within_lowering gate), inside, few)

-- what the loop over the gates has done in the end
pub all_lowered : (list : List Gate) (items gates : List ElementaryGate) (i : ℕ) → list ≡ lowered (take i gates) → items ≡ gates
    → length items ≤ i → i ≤ length items → list ≡ lowered gates
all_lowered list items gates i done same up down =
    let whole : i ≡ length gates = omega (arith, ap length same) in
    done ∙ ap lowered (ap (λ k. take k gates) whole ∙ take-length gates)
