-- Teleported phases keep the map.
use Rattle.std.proofs.Common.{◌≡◌, refl, sym, ◌∙◌, ap, ap₂, subst, ℕ, ◌+◌, ◌<◌, Bool, true, cond, ltb, eqb, List, [], ◌∷◌, length, filter, ltb-true, ltb-false, arith}
use Rattle.std.specs.List.{range_with_len}
use Rattle.std.proofs.lemmas.List.{get_or_past}
use Rattle.zx_model.specs.Phase.{turn, sum_of_phases}
use Rattle.zx_model.specs.Proportional.{Proportional}
use Rattle.zx_model.specs.Bits.{member}
use Rattle.zx_model.proofs.ProportionalLemmas.{proportional_sym, proportional_trans}
use Rattle.zx_calculus.specs.Graph.{Graph, in_order, IsVertex, WellFormed, Distinct}
use Rattle.zx_calculus.specs.Sum.{graph_sum}
use Rattle.zx_calculus.specs.Steps.{Step, IsRun}
use Rattle.zx_calculus.specs.StepScalars.{KeepsMap}
use Rattle.zx_calculus.proofs.Ids.{by_test, Distinct-rising, member-filter, and-right}
use Rattle.zx_calculus.proofs.Extensionality.{in_order-filter}
use Rattle.zx_gates.specs.Circuit.{Circuit, IsCircuit, IsBelowATurn, is_odd_phase}
use Rattle.zx_gates.specs.Maps.{amp}
use Rattle.zx_gates.specs.declared.gate.Gate.{Gate}
use Rattle.zx_gates.specs.declared.gate.Gate.TheVariants.{H, Phase, Cz, Cx, Not}
use Rattle.circuit_graph.specs.Translation.{translated, wires}
use Rattle.circuit_graph.specs.Internal.Runs.{begun}
use Rattle.circuit_graph.proofs.Whole.{translated_map}
use Rattle.teleport_laws.specs.Shifts.{shifted}
use Rattle.teleport_laws.specs.Spots.{At, Spot, spot_at}
use Rattle.teleport_laws.specs.Groups.{placed, change, teleported, AreGatesOf}
use Rattle.teleport_laws.proofs.Carrying.{AreBelow, held-below, none_plus}
use Rattle.teleport_laws.proofs.Grouping.{change_balanced}
use Rattle.teleport_laws.proofs.Placing.{leads_to_the_same, keeps_the_sum}
use Rattle.teleport_circuits.specs.Circuits.{phase_in, added_by}
use Rattle.teleport_circuits.specs.Teleporting.{gate_at, phase_at, vertex_at, odd_gates, new_phase, spots_of, teleported_gates, teleported_circuit}
use Rattle.circuit_graph.proofs.Wiring.{wires_formed}
use Rattle.circuit_graph.proofs.Existing.{ready}
use Rattle.teleport_circuits.proofs.Moving.{translation, translates}
use Rattle.teleport_circuits.proofs.WithPhases.{translates_there, graph_there, map_there}
use Rattle.teleport_circuits.proofs.Agreeing.{added_agrees, places_live, odd_placed}
use Rattle.circuit_graph.proofs.Beginning.{ids-spiders}

-- ---- numbers of gates
range-rising : (n : ℕ) → in_order ltb (range_with_len 0 n) ≡ true
range-rising n = ap (in_order ltb) (sym (ids-spiders (range_with_len 0 n))) ∙ (wires_formed n).vertices_rising

pub odd_gates-distinct : (c : Circuit) → Distinct (odd_gates c)
odd_gates-distinct c = Distinct-rising (odd_gates c) (in_order-filter (λ i. is_odd_phase (gate_at c i)) (range_with_len 0 (length c.gates)) (range-rising (length c.gates)))

pub odd_gates-odd : (c : Circuit) (i : ℕ) → member i (odd_gates c) ≡ true → is_odd_phase (gate_at c i) ≡ true
odd_gates-odd c i there = and-right (member i (range_with_len 0 (length c.gates))) _ (sym (member-filter (λ j. is_odd_phase (gate_at c j)) (range_with_len 0 (length c.gates)) i) ∙ there)

-- ---- phases are below a turn
phase_in-low : (gate : Gate) → IsBelowATurn gate → phase_in gate < turn
phase_in-low (H q) low = omega arith
phase_in-low (Phase q k) low = low
phase_in-low (Cz p q) low = omega arith
phase_in-low (Cx a b) low = omega arith
phase_in-low (Not q) low = omega arith

pub phase_at-low : (c : Circuit) → IsCircuit c → AreBelow (phase_at c)
phase_at-low c formed i =
    by_test (ltb i (length c.gates))
    (λ t. phase_in-low (gate_at c i) (formed.on_qubits i (H 0) (ltb-true i (length c.gates) t)).1)
    (λ f. subst (λ gate. phase_in gate < turn) (sym (get_or_past c.gates i (H 0) (ltb-false i (length c.gates) f))) (omega arith))

-- ---- sums over the gates that are picked
pub placed_same : (f k vertex_of : ℕ → ℕ) (pick : ℕ → Bool) (numbers : List ℕ) (v : ℕ) → ((i : ℕ) → pick i ≡ true → f i ≡ k i) → placed f vertex_of (filter pick numbers) v ≡ placed k vertex_of (filter pick numbers) v
placed_same f k vertex_of pick [] v same = refl
placed_same f k vertex_of pick (i ∷ is) v same =
    by_test (pick i)
    (λ t. rw t (ap₂ sum_of_phases (ap (λ x. cond (eqb (vertex_of i) v) x 0) (same i t)) (placed_same f k vertex_of pick is v same)))
    (λ t. rw t (placed_same f k vertex_of pick is v same))

module _ (c : Circuit) (formed : IsCircuit c) where
  pub graph_formed : WellFormed (translated c)
  graph_formed = subst WellFormed (translates c (λ i. 0) formed).graph (translates c (λ i. 0) formed).well_formed

  pub gates_there : (i : ℕ) → member i (odd_gates c) ≡ true → IsVertex (translated c) (vertex_at c i)
  gates_there i there =
      subst (λ g. IsVertex g (vertex_at c i)) (translates c (λ i. 0) formed).graph
      (places_live c.gates (begun c.qubits) (translation c (λ i. 0) formed).last i (vertex_at c i) (ready c.qubits) (translation c (λ i. 0) formed).run
      (odd_placed (wires c.qubits) c.gates i (odd_gates-odd c i there)))

  module _ (steps : List Step) (h : Graph) (run : IsRun (translated c) steps h) where
    spot : ℕ → Spot
    spot = spots_of c steps h run

    more : ℕ → ℕ
    more = placed (change (phase_at c) (teleported (phase_at c) (spots_of c steps h run) (odd_gates c))) (vertex_at c) (odd_gates c)

    -- what the new phases add
    adds : (v : ℕ) → added_by c (new_phase c (spots_of c steps h run)) v ≡ placed (change (phase_at c) (teleported (phase_at c) (spots_of c steps h run) (odd_gates c))) (vertex_at c) (odd_gates c) v
    adds v =
        added_agrees (phase_at c) (new_phase c (spots_of c steps h run)) (vertex_at c) (λ i. is_odd_phase (gate_at c i)) (phase_at-low c formed) 0 (wires c.qubits) c.gates (λ v. 0) v (λ v. omega arith)
        (λ j. ap (phase_at c) (zero_plus j)) (λ j. ap (vertex_at c) (zero_plus j)) (λ j. ap (λ i. is_odd_phase (gate_at c i)) (zero_plus j))
        (λ j even. ap (λ b. cond b (teleported (phase_at c) (spots_of c steps h run) (odd_gates c) (0 + j)) (phase_at c (0 + j))) (ap (λ i. is_odd_phase (gate_at c i)) (zero_plus j) ∙ even))
        ∙ none_plus _ (held-below (change (phase_at c) (new_phase c (spots_of c steps h run))) (λ i. spot_at (vertex_at c i)) (odd_gates c) (At v))
        ∙ placed_same (change (phase_at c) (new_phase c (spots_of c steps h run))) (change (phase_at c) (teleported (phase_at c) (spots_of c steps h run) (odd_gates c))) (vertex_at c) (λ i. is_odd_phase (gate_at c i)) (range_with_len 0 (length c.gates)) v
        (λ i odd. ap (λ b. change (phase_at c) (λ j. cond b (teleported (phase_at c) (spots_of c steps h run) (odd_gates c) i) (phase_at c i)) i) odd)
      where
        zero_plus : (j : ℕ) → 0 + j ≡ j
        zero_plus j = omega arith

    change_gates : AreGatesOf (translated c) (change (phase_at c) (teleported (phase_at c) (spots_of c steps h run) (odd_gates c))) (vertex_at c) (odd_gates c)
    change_gates = record { below = λ i. sum_low _ _; there = gates_there }
      where
        sum_low : (j k : ℕ) → sum_of_phases j k < turn
        sum_low j k = omega arith

    -- the graph of the new circuit, and the run from it
    pub formed_there : WellFormed (translated (teleported_circuit c steps h run))
    formed_there =
        let there = translates_there c (new_phase c (spots_of c steps h run)) formed in subst WellFormed there.graph there.well_formed

    pub same_run : IsRun (translated (teleported_circuit c steps h run)) steps h
    same_run = subst (λ g. IsRun g steps h) (sym (graph_there c (new_phase c (spots_of c steps h run)) formed))
        (subst (λ m. IsRun (shifted m (translated c)) steps h) (λ i v. sym (adds v) i)
        (leads_to_the_same (translated c) steps h run graph_formed _ (vertex_at c) (odd_gates c) change_gates
        (change_balanced (phase_at c) (spots_of c steps h run) (odd_gates c) (phase_at-low c formed) (odd_gates-distinct c))))

    sum_kept : KeepsMap (shifted (placed (change (phase_at c) (teleported (phase_at c) (spots_of c steps h run) (odd_gates c))) (vertex_at c) (odd_gates c)) (translated c)) (translated c)
    sum_kept = keeps_the_sum (translated c) steps h run graph_formed _ (vertex_at c) (odd_gates c) change_gates
        (change_balanced (phase_at c) (spots_of c steps h run) (odd_gates c) (phase_at-low c formed) (odd_gates-distinct c))

    read_map : Proportional c.qubits c.qubits (graph_sum (translated c)) (amp c.gates)
    read_map = subst (λ g. Proportional c.qubits c.qubits (graph_sum g) (amp c.gates)) (translates c (λ i. 0) formed).graph
        (translated_map c (translation c (λ i. 0) formed).last (translates c (λ i. 0) formed))

    inputs : length (translated c).inputs ≡ c.qubits
    inputs = ap (λ (g : Graph). length g.inputs) (sym (translates c (λ i. 0) formed).graph) ∙ (translates c (λ i. 0) formed).inputs

    outputs : length (translated c).outputs ≡ c.qubits
    outputs = ap (λ (g : Graph). length g.outputs) (sym (translates c (λ i. 0) formed).graph) ∙ (translates c (λ i. 0) formed).outputs

    new_map : Proportional c.qubits c.qubits (graph_sum (shifted (placed (change (phase_at c) (teleported (phase_at c) (spots_of c steps h run) (odd_gates c))) (vertex_at c) (odd_gates c)) (translated c))) (amp (teleported_gates c steps h run))
    new_map = subst (λ m. Proportional c.qubits c.qubits (graph_sum (shifted m (translated c))) (amp (teleported_gates c steps h run))) (λ i v. adds v i)
        (map_there c (new_phase c (spots_of c steps h run)) formed)

    kept : Proportional c.qubits c.qubits (graph_sum (shifted (placed (change (phase_at c) (teleported (phase_at c) (spots_of c steps h run) (odd_gates c))) (vertex_at c) (odd_gates c)) (translated c))) (graph_sum (translated c))
    kept = subst (λ n. Proportional n c.qubits (graph_sum (shifted (placed (change (phase_at c) (teleported (phase_at c) (spots_of c steps h run) (odd_gates c))) (vertex_at c) (odd_gates c)) (translated c))) (graph_sum (translated c))) inputs
        (subst (λ m. Proportional (length (translated c).inputs) m (graph_sum (shifted (placed (change (phase_at c) (teleported (phase_at c) (spots_of c steps h run) (odd_gates c))) (vertex_at c) (odd_gates c)) (translated c))) (graph_sum (translated c))) outputs sum_kept)

    pub map_kept : Proportional c.qubits c.qubits (amp (teleported_gates c steps h run)) (amp c.gates)
    map_kept =
        proportional_trans c.qubits c.qubits (amp (teleported_gates c steps h run)) (graph_sum (shifted (placed (change (phase_at c) (teleported (phase_at c) (spots_of c steps h run) (odd_gates c))) (vertex_at c) (odd_gates c)) (translated c))) (amp c.gates)
        (proportional_sym c.qubits c.qubits _ _ new_map)
        (proportional_trans c.qubits c.qubits _ (graph_sum (translated c)) (amp c.gates) kept read_map)

pub teleported_map : (c : Circuit) (steps : List Step) (h : Graph) (run : IsRun (translated c) steps h) → IsCircuit c → Proportional c.qubits c.qubits (amp (teleported_gates c steps h run)) (amp c.gates)
teleported_map c steps h run formed = map_kept c formed steps h run
