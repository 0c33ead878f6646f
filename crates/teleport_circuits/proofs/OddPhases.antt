-- How many of the teleported phases are odd.
use Rattle.std.proofs.Common.{◌≡◌, refl, sym, ◌∙◌, ap, ap₂, subst, ℕ, suc, ◌+◌, ◌%◌, ◌<◌, ◌≤◌, Bool, true, false, cond, ◌&&◌, eqb, List, [], ◌∷◌, length, map, filter, get_or, add-one, arith}
use Rattle.std.specs.List.{All, count_by, range_with_len}
use Rattle.std.proofs.lemmas.List.Elements.{All-head, All-tail, All-cons, All-nil}
use Rattle.zx_model.specs.Phase.{turn, half_turn, quarter_turn, sum_of_phases, opposite_phase, is_odd}
use Rattle.zx_model.specs.Bits.{member, one_if}
use Rattle.zx_model.proofs.Odd.{rest-even}
use Rattle.zx_calculus.specs.Graph.{Kind, Graph, ids, kind_of, phase_of}
use Rattle.zx_calculus.specs.Counts.{odd_phases}
use Rattle.zx_calculus.specs.Gadgets.{fuse_kind}
use Rattle.zx_calculus.specs.Turns.{in_plane}
use Rattle.zx_calculus.specs.Splits.{spider_of_phase_zero}
use Rattle.zx_calculus.specs.Steps.{Step, IsRun}
use Rattle.zx_calculus.proofs.Ids.{by_test, by_equal}
use Rattle.zx_calculus.proofs.Vertices.{ids-with_kinds, kind_of-with_kinds, kind_of-insert}
use Rattle.zx_calculus.proofs.Kept.{kind_of-insert_other, opposite_below}
use Rattle.zx_calculus.proofs.Steps.{run_odd}
use Rattle.zx_gates.specs.Circuit.{Circuit, IsCircuit, is_odd_phase, gate_odd_phases}
use Rattle.zx_gates.specs.declared.gate.Gate.{Gate}
use Rattle.zx_gates.specs.declared.gate.Gate.TheVariants.{H, Phase, Cz, Cx, Not}
use Rattle.circuit_graph.specs.Translation.{written_out, translated, wires}
use Rattle.circuit_graph.specs.Internal.Runs.{GraphSoFar, begun, IsGateStep, IsRun as IsGatesRun}
use Rattle.circuit_graph.proofs.WrittenOut.{count-cons}
use Rattle.teleport_laws.specs.Shifts.{shifted}
use Rattle.teleport_laws.specs.Spots.{At, spot_at}
use Rattle.teleport_laws.specs.Groups.{placed, change, teleported, odd_among, IsOfGates}
use Rattle.teleport_laws.proofs.Carrying.{AreBelow, held-below, none_plus}
use Rattle.teleport_laws.proofs.Shifting.{phase-shifted, opposite-sum}
use Rattle.teleport_laws.proofs.Resting.{kind_of-absent}
use Rattle.teleport_laws.proofs.Placing.{has_few_odd, placed-absent}
use Rattle.teleport_circuits.specs.Circuits.{phase_in, with_phase_in, added_by, with_phases, is_idle, without_idle}
use Rattle.teleport_circuits.specs.Teleporting.{gate_at, phase_at, vertex_at, odd_gates, new_phase, spots_of, teleported_gates}
use Rattle.teleport_circuits.proofs.Moving.{translates, run_there}
use Rattle.teleport_circuits.proofs.Agreeing.{added_agrees}
use Rattle.teleport_circuits.proofs.Teleporting.{placed_same, phase_at-low, graph_formed, gates_there, odd_gates-distinct}

-- ---- gates of even phases make even phases
abbrev IsEven : ℕ → Type 0
IsEven k = k % quarter_turn ≡ 0

abbrev AreEven : Graph → Type 0
AreEven g = (v : ℕ) → IsEven (phase_of g v)

even_sum : (j k : ℕ) → IsEven j → IsEven k → IsEven (sum_of_phases j k)
even_sum j k e f = omega arith

even_step : (s : GraphSoFar) (gate : Gate) (t : GraphSoFar) → IsEven (phase_in gate) → IsGateStep s gate t → AreEven s.graph → AreEven t.graph
even_step s (H q) t even c all v =
    by_equal v c.peel.spider
    (λ f e. ap (λ (k : Kind). k.phase % quarter_turn) (ap₂ kind_of c.peel.vertices e ∙ kind_of-insert (spider_of_phase_zero c.peel.spider) s.graph.vertices c.peel.fresh))
    (λ f n. ap (λ (k : Kind). k.phase % quarter_turn) (ap (λ vs. kind_of vs v) c.peel.vertices ∙ kind_of-insert_other v (spider_of_phase_zero c.peel.spider) s.graph.vertices n) ∙ all v)
even_step s (Phase q k) t even c all v =
    by_test (member v (ids s.graph.vertices))
    (λ there. ap (λ (kind : Kind). kind.phase % quarter_turn) (ap (λ vs. kind_of vs v) c.peel.vertices ∙ kind_of-with_kinds (fuse_kind c.peel.vertex k) v s.graph.vertices there) ∙ at (eqb v c.peel.vertex))
    (λ absent. ap (λ (kind : Kind). kind.phase % quarter_turn) (kind_of-absent t.graph.vertices v (ap (λ vs. member v (ids vs)) c.peel.vertices ∙ ap (member v) (ids-with_kinds (fuse_kind c.peel.vertex k) s.graph.vertices) ∙ absent)))
  where
    at : (b : Bool) → IsEven (cond b (in_plane (kind_of s.graph.vertices v).plane (sum_of_phases (phase_of s.graph v) k)) (kind_of s.graph.vertices v)).phase
    at true = even_sum (phase_of s.graph v) k (all v) even
    at false = all v
even_step s (Cz p q) t even c all v = ap (λ vs. (kind_of vs v).phase % quarter_turn) c.peel.vertices ∙ all v
even_step s (Cx a b) t even c all v = absurd c
even_step s (Not q) t even c all v = absurd c

abbrev IsEvenGate : Gate → Type 0
IsEvenGate gate = phase_in gate % quarter_turn ≡ 0

even_run : (s : GraphSoFar) (gates : List Gate) (t : GraphSoFar) → All IsEvenGate gates → IsGatesRun s gates t → AreEven s.graph → AreEven t.graph
even_run s [] t even run all = subst (λ (u : GraphSoFar). AreEven u.graph) run all
even_run s (gate ∷ gates) t even run all =
    even_run run.0 gates t (All-tail IsEvenGate gate gates even) run.2 (even_step s gate run.0 (All-head IsEvenGate gate gates even) run.1 all)

written_even : (phase : ℕ → ℕ) (i : ℕ) (gates : List Gate) → ((j : ℕ) → IsEven (phase j)) → All IsEvenGate (written_out (with_phases phase i gates))
written_even phase i [] even = All-nil IsEvenGate
written_even phase i (H q ∷ gates) even = All-cons IsEvenGate (H q) (written_out (with_phases phase (suc i) gates)) refl (written_even phase (suc i) gates even)
written_even phase i (Phase q k ∷ gates) even = All-cons IsEvenGate (Phase q (phase i)) (written_out (with_phases phase (suc i) gates)) (even i) (written_even phase (suc i) gates even)
written_even phase i (Cz p q ∷ gates) even = All-cons IsEvenGate (Cz p q) (written_out (with_phases phase (suc i) gates)) refl (written_even phase (suc i) gates even)
written_even phase i (Cx a b ∷ gates) even =
    let rest : List Gate = written_out (with_phases phase (suc i) gates) in
    All-cons IsEvenGate (H b) (Cz a b ∷ H b ∷ rest) refl (All-cons IsEvenGate (Cz a b) (H b ∷ rest) refl (All-cons IsEvenGate (H b) rest refl (written_even phase (suc i) gates even)))
written_even phase i (Not q ∷ gates) even =
    let rest : List Gate = written_out (with_phases phase (suc i) gates) in
    All-cons IsEvenGate (H q) (Phase q half_turn ∷ H q ∷ rest) refl (All-cons IsEvenGate (Phase q half_turn) (H q ∷ rest) refl (All-cons IsEvenGate (H q) rest refl (written_even phase (suc i) gates even)))

wires_even : (us : List ℕ) (v : ℕ) → IsEven (kind_of (map spider_of_phase_zero us) v).phase
wires_even [] v = refl
wires_even (u ∷ us) v = by_equal v u (λ t e. rw t refl) (λ t n. rw t (wires_even us v))

even_gate : (gate : Gate) → is_odd_phase gate ≡ false → IsEven (phase_in gate)
even_gate (H q) e = refl
even_gate (Phase q k) e = rest-even k e
even_gate (Cz p q) e = refl
even_gate (Cx a b) e = refl
even_gate (Not q) e = refl

cond_low : (b : Bool) (j : ℕ) → j < turn → cond b j 0 < turn
cond_low true j low = low
cond_low false j low = omega arith

placed-opposite : (f vertex_of : ℕ → ℕ) (numbers : List ℕ) (v : ℕ) → AreBelow f → placed (λ i. opposite_phase (f i)) vertex_of numbers v ≡ opposite_phase (placed f vertex_of numbers v)
placed-opposite f vertex_of [] v low = refl
placed-opposite f vertex_of (i ∷ is) v low =
    ap₂ sum_of_phases (at (eqb (vertex_of i) v)) (placed-opposite f vertex_of is v low)
    ∙ sym (opposite-sum (cond (eqb (vertex_of i) v) (f i) 0) (placed f vertex_of is v) (cond_low (eqb (vertex_of i) v) (f i) (low i)) (held-below f (λ j. spot_at (vertex_of j)) is (At v)))
  where
    at : (b : Bool) → cond b (opposite_phase (f i)) 0 ≡ opposite_phase (cond b (f i) 0)
    at true = refl
    at false = refl

rests : (p x : ℕ) → x < turn → IsEven (sum_of_phases p (opposite_phase x)) → p % quarter_turn ≡ x % quarter_turn
rests p x low even = omega arith

module _ (c : Circuit) (formed : IsCircuit c) where
  -- the even phases alone
  rest : ℕ → ℕ
  rest i = cond (is_odd_phase (gate_at c i)) 0 (phase_at c i)

  rest_even : (i : ℕ) → IsEven (cond (is_odd_phase (gate_at c i)) 0 (phase_at c i))
  rest_even i = by_test (is_odd_phase (gate_at c i)) (λ t. rw t refl) (λ f. rw f (even_gate (gate_at c i) f))

  even_there : AreEven (shifted (added_by c (λ i. cond (is_odd_phase (gate_at c i)) 0 (phase_at c i))) (translated c))
  even_there = subst (λ g. AreEven (shifted (added_by c (λ i. cond (is_odd_phase (gate_at c i)) 0 (phase_at c i))) g)) (translates c (λ i. cond (is_odd_phase (gate_at c i)) 0 (phase_at c i)) formed).graph
      (even_run (begun c.qubits) (written_out (with_phases (λ i. cond (is_odd_phase (gate_at c i)) 0 (phase_at c i)) 0 c.gates)) _
      (written_even (λ i. cond (is_odd_phase (gate_at c i)) 0 (phase_at c i)) 0 c.gates rest_even) (run_there c (λ i. cond (is_odd_phase (gate_at c i)) 0 (phase_at c i)) formed) (λ v. wires_even (range_with_len 0 c.qubits) v))

  adds_opposites : (v : ℕ) → added_by c (λ i. cond (is_odd_phase (gate_at c i)) 0 (phase_at c i)) v ≡ opposite_phase (placed (phase_at c) (vertex_at c) (odd_gates c) v)
  adds_opposites v =
      added_agrees (phase_at c) (λ i. cond (is_odd_phase (gate_at c i)) 0 (phase_at c i)) (vertex_at c) (λ i. is_odd_phase (gate_at c i)) (phase_at-low c formed) 0 (wires c.qubits) c.gates (λ v. 0) v (λ v. omega arith)
      (λ j. ap (phase_at c) (zero_plus j)) (λ j. ap (vertex_at c) (zero_plus j)) (λ j. ap (λ i. is_odd_phase (gate_at c i)) (zero_plus j))
      (λ j even. ap (λ b. cond b 0 (phase_at c (0 + j))) (ap (λ i. is_odd_phase (gate_at c i)) (zero_plus j) ∙ even))
      ∙ none_plus _ (held-below (change (phase_at c) (λ i. cond (is_odd_phase (gate_at c i)) 0 (phase_at c i))) (λ i. spot_at (vertex_at c i)) (odd_gates c) (At v))
      ∙ placed_same (change (phase_at c) (λ i. cond (is_odd_phase (gate_at c i)) 0 (phase_at c i))) (λ i. opposite_phase (phase_at c i)) (vertex_at c) (λ i. is_odd_phase (gate_at c i)) (range_with_len 0 (length c.gates)) v
      (λ i odd. ap (λ b. sum_of_phases (cond b 0 (phase_at c i)) (opposite_phase (phase_at c i))) odd ∙ none_plus (opposite_phase (phase_at c i)) (opposite_below (phase_at c i)))
      ∙ placed-opposite (phase_at c) (vertex_at c) (odd_gates c) v (phase_at-low c formed)
    where
      zero_plus : (j : ℕ) → 0 + j ≡ j
      zero_plus j = omega arith

  -- the phases of the graph are those of the odd gates, but for whole quarter turns
  phases_of_gates : IsOfGates (translated c) (placed (phase_at c) (vertex_at c) (odd_gates c))
  phases_of_gates v =
      by_test (member v (ids (translated c).vertices))
      (λ there. rests (phase_of (translated c) v) (placed (phase_at c) (vertex_at c) (odd_gates c) v) (held-below (phase_at c) (λ i. spot_at (vertex_at c i)) (odd_gates c) (At v))
      (ap (λ x. sum_of_phases (phase_of (translated c) v) x % quarter_turn) (sym (adds_opposites v))
      ∙ ap (λ x. x % quarter_turn) (sym (phase-shifted (added_by c (λ i. cond (is_odd_phase (gate_at c i)) 0 (phase_at c i))) (translated c) v there)) ∙ even_there v))
      (λ absent. ap (λ (k : Kind). k.phase % quarter_turn) (kind_of-absent (translated c).vertices v absent)
      ∙ ap (λ x. x % quarter_turn) (sym (placed-absent (translated c) (phase_at c) (vertex_at c) (odd_gates c) v (gates_there c formed) absent)))

  pub odd_at_most : (steps : List Step) (h : Graph) (run : IsRun (translated c) steps h) → odd_among (teleported (phase_at c) (spots_of c steps h run) (odd_gates c)) (odd_gates c) ≤ odd_phases h
  odd_at_most steps h run =
      has_few_odd (translated c) steps h run (graph_formed c formed) (phase_at c) (vertex_at c) (odd_gates c)
      (record { below = phase_at-low c formed; there = gates_there c formed }) (odd_gates-distinct c) phases_of_gates

  pub fewer_before : (steps : List Step) (h : Graph) → IsRun (translated c) steps h → odd_phases h ≤ gate_odd_phases c.gates
  fewer_before steps h run =
      let first : odd_phases h ≤ odd_phases (translated c) = run_odd (translated c) steps h (graph_formed c formed) run in
      let second : odd_phases (translated c) ≤ gate_odd_phases c.gates = subst (λ g. odd_phases g ≤ gate_odd_phases c.gates) (translates c (λ i. 0) formed).graph (translates c (λ i. 0) formed).odd in
      omega (arith, first, second)

-- ---- counts of gates
count_one : (p : Gate → Bool) (gate : Gate) → count_by p (gate ∷ []) ≡ one_if (p gate)
count_one p gate = at (p gate)
  where
    at : (b : Bool) → 0 + cond b 1 0 ≡ one_if b
    at true = refl
    at false = refl

-- a gate that may be left out
count_left : (gate : Gate) (gates : List Gate) → gate_odd_phases (without_idle (gate ∷ gates)) ≤ one_if (is_odd_phase gate) + gate_odd_phases (without_idle gates)
count_left gate gates =
    by_test (is_idle gate)
    (λ t. rw t (omega arith))
    (λ f. rw f (let e = count-cons is_odd_phase gate (without_idle gates) in let o = count_one is_odd_phase gate in omega (arith, e, o)))

-- a number that may be left out
number_left : (odd pick : ℕ → Bool) (i : ℕ) (is : List ℕ) → length (filter odd (filter pick (i ∷ is))) ≡ one_if (pick i && odd i) + length (filter odd (filter pick is))
number_left odd pick i is = at (pick i) (odd i) refl
  where
    at : (p o : Bool) → odd i ≡ o → length (filter odd (cond p (i ∷ filter pick is) (filter pick is))) ≡ one_if (p && o) + length (filter odd (filter pick is))
    at true true e = rw e (omega arith)
    at true false e = rw e (omega arith)
    at false o e = omega arith

odd_picked : (gate : Gate) (phase : ℕ) (tele : ℕ) (picked : Bool) → picked ≡ is_odd_phase gate → (picked ≡ true → phase ≡ tele) → (is_odd_phase gate ≡ false → phase ≡ phase_in gate) →
    one_if (is_odd_phase (with_phase_in phase gate)) ≤ one_if (picked && is_odd tele)
odd_picked (H q) phase tele picked e new old = omega arith
odd_picked (Cz p q) phase tele picked e new old = omega arith
odd_picked (Cx a b) phase tele picked e new old = omega arith
odd_picked (Not q) phase tele picked e new old = omega arith
odd_picked (Phase q k) phase tele true e new old = le_same (ap (λ x. one_if (is_odd x)) (new refl))
  where
    le_same : {a b : ℕ} → a ≡ b → a ≤ b
    le_same e = omega (arith, e)
odd_picked (Phase q k) phase tele false e new old = le_same (ap (λ x. one_if (is_odd x)) (old (sym e)) ∙ ap one_if (sym e))
  where
    le_same : {a b : ℕ} → a ≡ b → a ≤ b
    le_same e = omega (arith, e)

index : (i j : ℕ) → i + suc j ≡ suc i + j
index i j = omega arith

start : (i : ℕ) → i + 0 ≡ i
start i = omega arith

new_odd : (phase tele : ℕ → ℕ) (pick : ℕ → Bool) (i : ℕ) (gates : List Gate) → ((j : ℕ) → pick (i + j) ≡ is_odd_phase (get_or gates j (H 0))) → ((n : ℕ) → pick n ≡ true → phase n ≡ tele n) →
    ((j : ℕ) → is_odd_phase (get_or gates j (H 0)) ≡ false → phase (i + j) ≡ phase_in (get_or gates j (H 0))) →
    gate_odd_phases (without_idle (with_phases phase i gates)) ≤ length (filter (λ n. is_odd (tele n)) (filter pick (range_with_len i (length gates))))
new_odd phase tele pick i [] picked new old = omega arith
new_odd phase tele pick i (gate ∷ gates) picked new old =
    let rest : gate_odd_phases (without_idle (with_phases phase (suc i) gates)) ≤ length (filter (λ n. is_odd (tele n)) (filter pick (range_with_len (suc i) (length gates)))) =
    new_odd phase tele pick (suc i) gates (λ j. ap pick (sym (index i j)) ∙ picked (suc j)) new (λ j e. ap phase (sym (index i j)) ∙ old (suc j) e) in
    let one : one_if (is_odd_phase (with_phase_in (phase i) gate)) ≤ one_if (pick i && is_odd (tele i)) =
    odd_picked gate (phase i) (tele i) (pick i) (ap pick (sym (start i)) ∙ picked 0) (new i) (λ e. ap phase (sym (start i)) ∙ old 0 e) in
    both _ _ _ _ _ _ (count_left (with_phase_in (phase i) gate) (with_phases phase (suc i) gates)) one rest
    (ap (λ k. length (filter (λ n. is_odd (tele n)) (filter pick (i ∷ range_with_len k (length gates))))) (add-one i) ∙ number_left (λ n. is_odd (tele n)) pick i (range_with_len (suc i) (length gates)))
  where
    both : (all a b x y total : ℕ) → all ≤ a + b → a ≤ x → b ≤ y → total ≡ x + y → all ≤ total
    both all a b x y total e f g h = omega arith

pub teleported_odd : (c : Circuit) (steps : List Step) (h : Graph) (run : IsRun (translated c) steps h) → IsCircuit c → gate_odd_phases (teleported_gates c steps h run) ≤ odd_phases h
teleported_odd c steps h run formed =
    let some : gate_odd_phases (teleported_gates c steps h run) ≤ odd_among (teleported (phase_at c) (spots_of c steps h run) (odd_gates c)) (odd_gates c) =
    new_odd (new_phase c (spots_of c steps h run)) (teleported (phase_at c) (spots_of c steps h run) (odd_gates c)) (λ i. is_odd_phase (gate_at c i)) 0 c.gates
    (λ j. ap (λ i. is_odd_phase (gate_at c i)) (zero_plus j))
    (λ n odd. ap (λ b. cond b (teleported (phase_at c) (spots_of c steps h run) (odd_gates c) n) (phase_at c n)) odd)
    (λ j even. ap (λ b. cond b (teleported (phase_at c) (spots_of c steps h run) (odd_gates c) (0 + j)) (phase_at c (0 + j))) (ap (λ i. is_odd_phase (gate_at c i)) (zero_plus j) ∙ even) ∙ ap (phase_at c) (zero_plus j)) in
    let most = odd_at_most c formed steps h run in
    omega (arith, some, most)
  where
    zero_plus : (j : ℕ) → 0 + j ≡ j
    zero_plus j = omega arith

pub teleported_fewer : (c : Circuit) (steps : List Step) (h : Graph) (run : IsRun (translated c) steps h) → IsCircuit c → gate_odd_phases (teleported_gates c steps h run) ≤ gate_odd_phases c.gates
teleported_fewer c steps h run formed =
    let odd = teleported_odd c steps h run formed in
    let less = fewer_before c formed steps h run in
    omega (arith, odd, less)
