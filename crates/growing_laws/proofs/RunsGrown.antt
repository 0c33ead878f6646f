-- Runs beside gates that are put behind the outputs.
use Rattle.std.proofs.Common.{◌≡◌, sym, ◌∙◌, ap, subst, true≢false, ℕ, ◌≤◌, ◌+◌, Bool, false, cond, arith, List, [], ◌∷◌, ◌++◌, length, map}
use Rattle.std.specs.List.{All}
use Rattle.std.proofs.lemmas.List.Elements.{All-head, All-tail}
use Rattle.std.proofs.lemmas.List.Sums.{sum_by-append}
use Rattle.zx_model.specs.Bits.{member}
use Rattle.zx_model.specs.Number.{Number, one, mul}
use Rattle.zx_model.specs.Sums.{total, all_labels}
use Rattle.zx_model.specs.Scalar.{numerator, denominator}
use Rattle.zx_model.specs.Number.{root_power}
use Rattle.zx_model.specs.declared.scalar.Scalar.{Scalar}
use Rattle.zx_model.proofs.Ring.{mul_assoc, mul_left_comm, one-mul}
use Rattle.zx_calculus.specs.Graph.{Graph, ids, IsVertex, WellFormed}
use Rattle.zx_calculus.specs.Sum.{graph_sum}
use Rattle.zx_calculus.specs.Counts.{odd_phases}
use Rattle.zx_calculus.specs.StepScalars.{IsSumTimes}
use Rattle.zx_calculus.specs.Steps.{Step, IsRun}
use Rattle.zx_calculus.proofs.Ids.{by_test, and-left, and-right, not-true}
use Rattle.zx_calculus.proofs.Steps.{step_kept, run_kept}
use Rattle.move_laws.specs.Orders.{is_split}
use Rattle.zx_gates.specs.Circuit.{IsOnQubits, gate_odd_phases, is_odd_phase}
use Rattle.zx_gates.specs.Maps.{acts, amp}
use Rattle.zx_gates.specs.declared.gate.Gate.{Gate}
use Rattle.circuit_laws.specs.Followed.{followed, PeelsAt}
use Rattle.circuit_laws.specs.Peeling.{are_plain}
use Rattle.circuit_laws.proofs.Composing.{followed-entry, peels_nothing, peels_at_then}
use Rattle.circuit_laws.proofs.Totals.{total-map_mul, total_same}
use Rattle.growing_laws.specs.Growing.{placed, next_id, ids_after, grown, SplitNothing, IsBasic, IsGrowing}
use Rattle.growing_laws.proofs.StepsPlaced.{step_placed, step_fresh, step_frame, step_on}
use Rattle.growing_laws.proofs.Peeled.{placed_formed, placed_plain, placed_odd, placed_peels, placed_outputs, placed_below, fresh_above}

unfoldable pub run_placed : (new : ℕ) (g : Graph) (steps : List Step) (h : Graph) (gate : Gate) → WellFormed g → SplitNothing steps → member new (ids g.vertices) ≡ false →
    IsOnQubits (length g.outputs) gate → IsRun g steps h → IsRun (placed new g gate) steps (placed new h gate)
run_placed new g [] h gate w none fresh on same = ap (λ (k : Graph). placed new k gate) same
run_placed new g (s ∷ steps) h gate w none fresh on run =
    let no_split : is_split s ≡ false = not-true (is_split s) (and-left _ _ none) in (
      placed new run.0 gate,
      step_placed new g s run.0 gate w no_split fresh on run.1,
      run_placed new run.0 steps h gate (step_kept g s run.0 w run.1) (and-right _ _ none) (step_fresh new g s run.0 no_split run.1 fresh)
          (step_on g s run.0 gate no_split run.1 on) run.2,
    )

pub run_outputs : (g : Graph) (steps : List Step) (h : Graph) → SplitNothing steps → IsRun g steps h → h.outputs ≡ g.outputs
run_outputs g [] h none same = ap (λ (k : Graph). k.outputs) (sym same)
run_outputs g (s ∷ steps) h none run =
    run_outputs run.0 steps h (and-right _ _ none) run.2 ∙ (step_frame g s run.0 (not-true (is_split s) (and-left _ _ none)) run.1).outputs

-- what is a vertex was one
run_live : (g : Graph) (steps : List Step) (h : Graph) → SplitNothing steps → IsRun g steps h → (v : ℕ) → IsVertex h v → IsVertex g v
run_live g [] h none same v there = ap (λ (k : Graph). member v (ids k.vertices)) same ∙ there
run_live g (s ∷ steps) h none run v there =
    let no_split : is_split s ≡ false = not-true (is_split s) (and-left _ _ none) in
    by_test (member v (ids g.vertices)) (λ t. t)
    (λ f. absurd (true≢false (sym (run_live run.0 steps h (and-right _ _ none) run.2 v there) ∙ step_fresh v g s run.0 no_split run.1 f)))

pub run_growing : (new n : ℕ) (g : Graph) (steps : List Step) (h : Graph) → IsGrowing new n g → SplitNothing steps → IsRun g steps h → IsGrowing new n h
run_growing new n g steps h r none run = record {
  well_formed = run_kept g steps h r.well_formed run;
  outputs = ap length (run_outputs g steps h none run) ∙ r.outputs;
  plain = ap are_plain (run_outputs g steps h none run) ∙ r.plain;
  below = λ v there. r.below v (run_live g steps h none run v there);
}

unfoldable pub run_append : (g : Graph) (first : List Step) (h : Graph) (second : List Step) (k : Graph) → IsRun g first h → IsRun h second k → IsRun g (first ++ second) k
run_append g [] h second k same run = subst (λ r. IsRun r second k) (sym same) run
run_append g (s ∷ first) h second k before run = (before.0, before.1, run_append before.0 first h second k before.2 run)

-- ---- a list of gates
on_outputs : (n : ℕ) (g : Graph) (gate : Gate) → length g.outputs ≡ n → IsOnQubits n gate → IsOnQubits (length g.outputs) gate
on_outputs n g gate same on = subst (λ k. IsOnQubits k gate) (sym same) on

pub grows_on : (new n : ℕ) (g : Graph) (gate : Gate) → IsGrowing new n g → IsOnQubits n gate → IsGrowing (next_id new gate) n (placed new g gate)
grows_on new n g gate r on = record {
  well_formed = placed_formed new g r.well_formed (fresh_above new g r.below) r.plain gate (on_outputs n g gate r.outputs on);
  plain = placed_plain new g r.well_formed (fresh_above new g r.below) r.plain gate;
  below = placed_below new g gate r.below;
  outputs = placed_outputs new g gate ∙ r.outputs;
}

pub grown_grows : (new n : ℕ) (g : Graph) (gates : List Gate) → IsGrowing new n g → All (IsOnQubits n) gates →
    IsGrowing (ids_after new gates) n (grown new g gates)
grown_grows new n g [] r on = r
grown_grows new n g (gate ∷ gates) r on =
    grown_grows (next_id new gate) n (placed new g gate) gates (grows_on new n g gate r (All-head (IsOnQubits n) gate gates on)) (All-tail (IsOnQubits n) gate gates on)

pub run_grown : (new n : ℕ) (g : Graph) (steps : List Step) (h : Graph) (gates : List Gate) → IsGrowing new n g → SplitNothing steps → All (IsOnQubits n) gates →
    IsRun g steps h → IsRun (grown new g gates) steps (grown new h gates)
run_grown new n g steps h [] r none on run = run
run_grown new n g steps h (gate ∷ gates) r none on run =
    let here : IsOnQubits n gate = All-head (IsOnQubits n) gate gates on in
    run_grown (next_id new gate) n (placed new g gate) steps (placed new h gate) gates (grows_on new n g gate r here) none
    (All-tail (IsOnQubits n) gate gates on)
    (run_placed new g steps h gate r.well_formed none (fresh_above new g r.below) (on_outputs n g gate r.outputs here) run)

pub odd_cons : (gate : Gate) (gates : List Gate) → gate_odd_phases (gate ∷ gates) ≡ gate_odd_phases (gate ∷ []) + gate_odd_phases gates
odd_cons gate gates = sum_by-append (λ g. cond (is_odd_phase g) 1 0) (gate ∷ []) gates

pub grown_odd : (new n : ℕ) (g : Graph) (gates : List Gate) → IsGrowing new n g → All (IsOnQubits n) gates →
    odd_phases (grown new g gates) ≤ odd_phases g + gate_odd_phases gates
grown_odd new n g [] r on = omega arith
grown_odd new n g (gate ∷ gates) r on =
    let here : IsOnQubits n gate = All-head (IsOnQubits n) gate gates on in
    let first = placed_odd new g r.well_formed (fresh_above new g r.below) r.plain gate (on_outputs n g gate r.outputs here) in
    let later = grown_odd (next_id new gate) n (placed new g gate) gates (grows_on new n g gate r here) (All-tail (IsOnQubits n) gate gates on) in
    let both = odd_cons gate gates in
    omega (arith, first, later, both)

pub grown_peels : (new n : ℕ) (g : Graph) (gates : List Gate) → IsGrowing new n g → All IsBasic gates → All (IsOnQubits n) gates → PeelsAt one (grown new g gates) gates g
grown_peels new n g [] r basic on = peels_nothing g
grown_peels new n g (gate ∷ gates) r basic on =
    let here : IsOnQubits n gate = All-head (IsOnQubits n) gate gates on in
    subst (λ c. PeelsAt c (grown new g (gate ∷ gates)) (gate ∷ gates) g) (one-mul one)
    (peels_at_then one one (grown new g (gate ∷ gates)) (placed new g gate) g (gate ∷ []) gates
    (grown_peels (next_id new gate) n (placed new g gate) gates (grows_on new n g gate r here) (All-tail IsBasic gate gates basic) (All-tail (IsOnQubits n) gate gates on))
    (placed_peels new g r.well_formed (fresh_above new g r.below) r.plain gate (All-head IsBasic gate gates basic) (on_outputs n g gate r.outputs here)))

-- ---- exact scalars stay where the same gates follow
times_followed : (g : Graph) (c : Number) (f : List Bool → Number) (x : List Bool) →
    mul c (followed g f x) ≡ total (map (λ y. mul (mul c (graph_sum g x y)) (f y)) (all_labels (length g.outputs)))
times_followed g c f x =
    sym (total-map_mul c (λ y. mul (graph_sum g x y) (f y)) (all_labels (length g.outputs)))
    ∙ ap (λ (e : List Bool → Number). total (map e (all_labels (length g.outputs)))) (λ i y. sym (mul_assoc c (graph_sum g x y) (f y)) i)

module _ (g h : Graph) (s : Scalar) (outputs : length h.outputs ≡ length g.outputs) (scaled : IsSumTimes g s h) where
  left : Number
  left = denominator s.root2

  right : Number
  right = mul (numerator s.root2) (root_power s.turn)

  followed_scaled : (f : List Bool → Number) (x : List Bool) → length x ≡ length g.inputs → mul left (followed g f x) ≡ mul right (followed h f x)
  unfolding left right
  followed_scaled f x l =
      times_followed g left f x
      ∙ total_same (length g.outputs) _ _ (λ y m. ap (λ e. mul e (f y)) (scaled x y l m))
      ∙ ap (λ n. total (map (λ y. mul (mul right (graph_sum h x y)) (f y)) (all_labels n))) (sym outputs)
      ∙ sym (times_followed h right f x)

  pub scaled_behind : (c : Number) (gates : List Gate) (k l : Graph) → PeelsAt c k gates g → PeelsAt c l gates h → IsSumTimes k s l
  unfolding left right
  scaled_behind c gates k l p q x y at_inputs at_outputs =
      let entry : List Bool → Number = λ z. amp [] z y in
      ap (mul left) (sym (followed-entry k x y at_outputs) ∙ p.0.equal entry x ∙ ap (λ e. mul e (followed g (acts gates entry) x)) p.1)
      ∙ mul_left_comm left c (followed g (acts gates entry) x)
      ∙ ap (mul c) (followed_scaled (acts gates entry) x (at_inputs ∙ sym p.0.inputs))
      ∙ mul_left_comm c right (followed h (acts gates entry) x)
      ∙ ap (mul right)
      (ap (λ e. mul e (followed h (acts gates entry) x)) (sym q.1) ∙ sym (q.0.equal entry x)
      ∙ followed-entry l x y (at_outputs ∙ sym p.0.outputs ∙ sym outputs ∙ q.0.outputs))

pub grown_scaled : (new n : ℕ) (g h : Graph) (gates : List Gate) (s : Scalar) → IsGrowing new n g → IsGrowing new n h → All IsBasic gates → All (IsOnQubits n) gates →
    IsSumTimes g s h → IsSumTimes (grown new g gates) s (grown new h gates)
grown_scaled new n g h gates s r r' basic on scaled =
    scaled_behind g h s (r'.outputs ∙ sym r.outputs) scaled one gates (grown new g gates) (grown new h gates)
    (grown_peels new n g gates r basic on) (grown_peels new n h gates r' basic on)
