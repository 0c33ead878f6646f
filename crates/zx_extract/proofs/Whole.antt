-- What the gates are to the graph when all were taken off.
use Rattle.std.proofs.Common.{◌≡◌, refl, sym, ◌∙◌, ap, subst, ℕ, ◌+◌, ◌-◌, ◌*◌, ◌/◌, ◌≤◌, true, false, List, [], ◌∷◌, ◌++◌, length, length-append, append-nil, reverse, mul-le-mul_left, arith, le_of_eq, zero as nought, suc, pos, ap₂}
use Rattle.std.specs.List.{All}
use Rattle.std.proofs.lemmas.List.Elements.{All-nil, All-head, All-tail, All-push}
use Rattle.std.proofs.lemmas.List.{reverse-append, reverse-reverse}
use Rattle.zx_model.specs.Bits.{member}
use Rattle.zx_model.specs.Number.{one, mul}
use Rattle.zx_model.specs.Scalar.{root_of_two_power, IsScaled}
use Rattle.zx_model.proofs.Ring.{mul-one, one-mul}
use Rattle.zx_model.proofs.Powers.{root_power-zero}
use Rattle.zx_model.proofs.Scalars.{root_of_two_squared, root_of_two_power-add}
use Rattle.zx_calculus.specs.Graph.{Graph, ids, joined, end_vertices, IsVertex, WellFormed}
use Rattle.zx_calculus.specs.Sum.{graph_sum}
use Rattle.zx_calculus.specs.Counts.{odd_phases, not_XY, XY_without_output}
use Rattle.zx_calculus.proofs.Ids.{by_test}
use Rattle.zx_calculus.proofs.Edges.{joined_comm}
use Rattle.zx_calculus.proofs.Splitting.{joined-absent}
use Rattle.gflow_laws.specs.Flow.{IsFlow}
use Rattle.gflow_laws.proofs.AllEnds.{all_ends}
use Rattle.zx_gates.specs.Circuit.{IsOnQubits, gate_odd_phases}
use Rattle.zx_gates.specs.Maps.{amp}
use Rattle.zx_gates.specs.declared.gate.Gate.{Gate}
use Rattle.circuit_laws.specs.Followed.{EndsAt}
use Rattle.circuit_laws.specs.Gates.{hadamards_from}
use Rattle.circuit_laws.specs.Peeling.{HasPlainOutput, IsWires}
use Rattle.circuit_laws.proofs.Composing.{peels_at_end, ends_at_sum}
use Rattle.circuit_laws.proofs.Counts.{hadamards_odd}
use Rattle.circuit_laws.proofs.Wires.{wires_end}
use Rattle.circuit_laws.proofs.GateLists.{hadamards_few}
use Rattle.zx_extract.specs.Extraction.{most_extracted_gates}
use Rattle.zx_extract.specs.Internal.Extracted.{HasExactMap}
use Rattle.zx_extract.specs.Internal.Extracted.{IsExtracted, IsTakenApart}
use Rattle.zx_extract.specs.Internal.Lists.{in_line}
use Rattle.zx_extract.specs.Internal.Leading.{Remainder, Leads, IsReady, IsFrontier, AreTakenOff}
use Rattle.zx_extract.proofs.Leads.{leads_then, leads_within}
use Rattle.zx_extract.proofs.Places.{place_of_output}
use Rattle.zx_extract.proofs.Exchanges.{places-plain, plain-map}
use Rattle.zx_model.specs.Constants.{root_of_two}
use Rattle.zx_model.specs.Internal.Powers.{power_of_two}
use Rattle.zx_gates.proofs.LoweringLemmas.{gate_odd_phases-append}

-- with the outputs in line, wires are left
pub line_wires : (s : Remainder) → IsReady s → IsFrontier s.graph → s.table ≡ [] →
    length s.graph.inputs ≡ length s.graph.outputs → IsWires (in_line s.graph)
line_wires s r f none ends = record {
  phase = λ u live. let place : (p : ℕ) × HasPlainOutput s.graph p u = at_place u live in
      f.phase place.0 u refl place.1;
  output = λ u live. ap (member u) (places-plain (end_vertices s.graph.inputs)) ∙ (all u live).0;
  in_line = sym (places-plain (end_vertices s.graph.inputs));
  plain_outputs = plain-map (end_vertices s.graph.inputs);
  no_edges = λ p q. by_test (member p (ids s.graph.vertices))
      (λ in_p. by_test (member q (ids s.graph.vertices))
      (λ in_q. let at_p : (i : ℕ) × HasPlainOutput s.graph i p = at_place p in_p in
      let at_q : (i : ℕ) × HasPlainOutput s.graph i q = at_place q in_q in
      f.apart at_p.0 at_q.0 refl refl p q at_p.1 at_q.1)
      (λ out. joined_comm s.graph.edges p q ∙ absent q p out))
      (λ out. absent p q out);
}
  where
    all : (v : ℕ) → IsVertex s.graph v → (member v (end_vertices s.graph.inputs) ≡ true) ×
        (member v (end_vertices s.graph.outputs) ≡ true)
    all = all_ends s.graph r.given.well_formed (subst (IsFlow s.graph) none r.given.flow) ends

    at_place : (u : ℕ) → IsVertex s.graph u → (p : ℕ) × HasPlainOutput s.graph p u
    at_place u live = place_of_output s.graph.outputs u r.plain (all u live).1

    absent : (p q : ℕ) → member p (ids s.graph.vertices) ≡ false → joined s.graph.edges p q ≡ false
    absent p q out = joined-absent (ids s.graph.vertices)
        s.graph.edges p q r.given.well_formed.edges.lower_there r.given.well_formed.edges.higher_there out

-- ---- all gates
module _ (s : Remainder) (k p q : ℕ) (t : Remainder) (a : Leads s k p q t) (none : s.gates ≡ []) (w : WellFormed t.graph)
    (wires : IsWires t.graph) where
  all_taken : t.gates ≡ a.taken
  all_taken = a.gates ∙ ap (λ l. a.taken ++ l) none ∙ append-nil a.taken

  ends_at : EndsAt (power_of_two a.doublings) s.graph (hadamards_from 0 s.graph.inputs ++ t.gates)
  ends_at = subst (λ c. EndsAt c s.graph (hadamards_from 0 s.graph.inputs ++ t.gates))
      (mul-one (power_of_two a.doublings))
      (subst (λ l. EndsAt (mul (power_of_two a.doublings) one) s.graph (hadamards_from 0 s.graph.inputs ++ l))
      (sym all_taken)
      (subst (λ es. EndsAt (mul (power_of_two a.doublings) one) s.graph (hadamards_from 0 es ++ a.taken)) a.inputs
      (peels_at_end (power_of_two a.doublings) one s.graph t.graph (hadamards_from 0 t.graph.inputs) a.taken a.map
      (wires_end t.graph w wires))))

  pub whole_exact : HasExactMap a.doublings s.graph (hadamards_from 0 s.graph.inputs ++ t.gates)
  whole_exact = record {
    few = omega (arith, a.few_doublings, a.others);
    equal = ends_at_sum (power_of_two a.doublings) s.graph (hadamards_from 0 s.graph.inputs ++ t.gates) ends_at;
  }

  pub whole_odd : gate_odd_phases (hadamards_from 0 s.graph.inputs ++ t.gates) ≤ odd_phases s.graph
  whole_odd = no_more _ _ _ _ _ _ (gate_odd_phases-append (hadamards_from 0 s.graph.inputs) t.gates)
      (hadamards_odd 0 s.graph.inputs) (ap gate_odd_phases all_taken) a.odd
    where
      no_more : (all first second taken left old : ℕ) → all ≡ first + second → first ≡ 0 → second ≡ taken →
          left + taken ≤ old → all ≤ old
      no_more all first second taken left old e f g h = omega arith

  pub whole_few : length (hadamards_from 0 s.graph.inputs ++ t.gates) ≤ length s.graph.inputs + k
  whole_few = few _ _ _ _ _ (length-append (hadamards_from 0 s.graph.inputs) t.gates) (hadamards_few 0 s.graph.inputs)
      (ap length all_taken) a.few
    where
      few : (all first second n taken : ℕ) → all ≡ first + second → first ≤ n → second ≡ taken → taken ≤ k → all ≤ n + k
      few all first second n taken e f g h = omega arith

-- ---- how many gates there are
pub few_in_all : (n k marks settled p q p0 q0 taken crossed inputs : ℕ) → marks ≡ n → settled ≡ n * (n - 1) / 2 + n →
    taken ≡ 2 * n * p + 3 * n * q → crossed ≡ 3 * n → inputs ≡ n →
    p ≤ p0 → q ≤ q0 → k ≤ inputs + (marks + (settled + (taken + crossed))) → k ≤ most_extracted_gates n p0 q0
few_in_all n k marks settled p q p0 q0 taken crossed inputs a b c d e more_p more_q few =
    let spiders : 2 * n * p ≤ 2 * n * p0 = mul-le-mul_left (2 * n) more_p in
    let gadgets : 3 * n * q ≤ 3 * n * q0 = mul-le-mul_left (3 * n) more_q in
    sum_up n k (n * (n - 1) / 2) (2 * n * p) (3 * n * q) (2 * n * p0) (3 * n * q0) spiders gadgets (omega arith)
  where
    sum_up : (n k half a b c d : ℕ) → a ≤ c → b ≤ d → k ≤ n + (n + ((half + n) + ((a + b) + 3 * n))) →
        k ≤ half + 6 * n + c + d
    sum_up n k half a b c d e f g = omega arith

-- ---- the steps in a row
module _ {doublings : ℕ} (s0 s1 s2 s3 s4 : Remainder) (none : s0.gates ≡ []) (ends : length s0.graph.inputs ≡ length s0.graph.outputs)
    (marks : Leads s0 (length s0.graph.outputs) 0 0 s1)
    (settled : Leads s1 (length s1.graph.outputs * (length s1.graph.outputs - 1) / 2 + length s1.graph.outputs) 0 0 s2)
    (taken : AreTakenOff doublings s2 s3) (all : s3.table ≡ [])
    (crossed : Leads s3 (3 * length s3.graph.outputs) 0 0
    (record { graph = in_line s3.graph; table = s4.table; gates = s4.gates }))
    (formed : WellFormed (in_line s3.graph)) where
  abbrev last : Remainder
  last = record { graph = in_line s3.graph; table = s4.table; gates = s4.gates }

  abbrev n : ℕ
  n = length s0.graph.outputs

  -- ends are as many as they were
  outputs1 : length s1.graph.outputs ≡ n
  outputs1 = marks.outputs

  outputs2 : length s2.graph.outputs ≡ n
  outputs2 = settled.outputs ∙ outputs1

  outputs3 : length s3.graph.outputs ≡ n
  outputs3 = taken.leads.outputs ∙ outputs2

  pub inputs3 : s3.graph.inputs ≡ s0.graph.inputs
  inputs3 = taken.leads.inputs ∙ settled.inputs ∙ marks.inputs

  pub ends3 : length s3.graph.inputs ≡ length s3.graph.outputs
  ends3 = ap length inputs3 ∙ ends ∙ sym outputs3

  settled_here : Leads s1 (n * (n - 1) / 2 + n) 0 0 s2
  settled_here = subst (λ m. Leads s1 (m * (m - 1) / 2 + m) 0 0 s2) outputs1 settled

  taken_here : Leads s2 (2 * n * taken.spiders + 3 * n * taken.gadgets) taken.spiders taken.gadgets s3
  taken_here = leads_within s2 _ _ _ _ s3 (le_of_eq (ap (λ m. 2 * m * taken.spiders + 3 * m * taken.gadgets) outputs2)) taken.leads

  crossed_here : Leads s3 (3 * n) 0 0 last
  crossed_here = subst (λ m. Leads s3 (3 * m) 0 0 last) outputs3 crossed

  together : Leads s0 (n + ((n * (n - 1) / 2 + n) + ((2 * n * taken.spiders + 3 * n * taken.gadgets) + 3 * n)))
      (0 + (0 + (taken.spiders + 0))) (0 + (0 + (taken.gadgets + 0))) last
  together =
      leads_then s0 n 0 0 s1 _ _ _ last marks
      (leads_then s1 _ 0 0 s2 _ _ _ last settled_here (leads_then s2 _ taken.spiders taken.gadgets s3 _ 0 0 last taken_here crossed_here))

  doubled : together.doublings ≡ doublings
  unfolding together leads_then taken_here leads_within
  doubled = omega (arith, marks.few_doublings, settled_here.few_doublings, crossed_here.few_doublings, taken.doubled)

  wires : IsWires (in_line s3.graph)
  wires = line_wires s3 taken.ready taken.frontier all ends3

  pub extracted : IsExtracted doublings s0.graph (hadamards_from 0 s0.graph.inputs ++ s4.gates)
  extracted = record {
    exact = subst (λ d. HasExactMap d s0.graph (hadamards_from 0 s0.graph.inputs ++ s4.gates)) doubled (whole_exact s0 _ _ _ last together none formed wires);
    odd = whole_odd s0 _ _ _ last together none formed wires;
    few = few_in_all n _ n (n * (n - 1) / 2 + n) taken.spiders taken.gadgets (XY_without_output s0.graph)
        (not_XY s0.graph) (2 * n * taken.spiders + 3 * n * taken.gadgets) (3 * n) (length s0.graph.inputs)
        refl refl refl refl ends (at_most _ _ _ together.XY) (at_most _ _ _ together.others)
        (whole_few s0 _ _ _ last together none formed wires);
  }
    where
      at_most : (left gone all : ℕ) → left + (0 + (0 + (gone + 0))) ≡ all → gone ≤ all
      at_most left gone all e = omega arith

  pub on_inputs : All (IsOnQubits (length s0.graph.inputs)) s4.gates
  on_inputs = subst (λ m. All (IsOnQubits m) s4.gates) (sym ends)
      (subst (All (IsOnQubits n)) (sym (all_taken s0 _ _ _ last together none formed wires)) together.on_qubits)

  -- the gates behind the Hadamards of the inputs
  module _ (g : Graph) (given : s0.graph ≡ g) (stays : s4.graph ≡ s3.graph) where
    inputs4 : s4.graph.inputs ≡ s0.graph.inputs
    inputs4 = ap (λ (h : Graph). h.inputs) stays ∙ inputs3

    pub taken_apart : IsTakenApart doublings g s4
    taken_apart = record {
      extracted = subst (λ es. IsExtracted doublings g (hadamards_from 0 es ++ s4.gates)) (sym inputs4)
          (subst (λ h. IsExtracted doublings h (hadamards_from 0 s0.graph.inputs ++ s4.gates)) given extracted);
      on_qubits = subst (λ es. All (IsOnQubits (length es)) s4.gates) (sym inputs4) on_inputs;
      qubits = ap length inputs4 ∙ ends ∙ ap (λ (h : Graph). length h.outputs) given;
    }

-- gates that are kept backwards
pub All-backwards : (P : Gate → Type 0) (gates : List Gate) → All P (reverse gates) → All P gates
All-backwards P gates all = subst (All P) (reverse-reverse gates) (turned (reverse gates) all)
  where
    turned : (gates : List Gate) → All P gates → All P (reverse gates)
    turned [] all = All-nil P
    turned (gate ∷ gates) all = subst (All P) (sym (reverse-append (gate ∷ []) gates))
        (All-push P (reverse gates) gate (turned gates (All-tail P gate gates all)) (All-head P gate gates all))

-- ---- the scalar
twos : (d : ℕ) → root_of_two_power (2 * d) ≡ power_of_two d
twos nought = refl
twos (suc d) =
    let longer : 2 * suc d ≡ 2 + 2 * d = omega arith in
    ap root_of_two_power longer ∙ root_of_two_power-add 2 (2 * d)
    ∙ ap₂ mul (ap (mul root_of_two) (mul-one root_of_two) ∙ root_of_two_squared) (twos d)

pub exact_scaled : (d : ℕ) (g : Graph) (gates : List Gate) → HasExactMap d g gates →
    IsScaled (length g.inputs) (length g.outputs) (graph_sum g) (record { root2 = pos (2 * d); turn = 0 }) (amp gates)
exact_scaled d g gates e = λ x y p q.
    one-mul (graph_sum g x y) ∙ e.equal x y p q
    ∙ ap (λ z. mul z (amp gates x y)) (sym (twos d) ∙ sym (mul-one (root_of_two_power (2 * d))) ∙ ap (mul (root_of_two_power (2 * d))) (sym root_power-zero))
