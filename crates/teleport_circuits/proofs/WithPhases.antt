-- The graph of a circuit with other phases is that of the circuit, with the differences added.
use Rattle.std.proofs.Common.{◌≡◌, refl, sym, ◌∙◌, ap, subst, ℕ, suc, ◌+◌, ◌*◌, ◌<◌, pos, neg_ℤ, List, [], ◌∷◌, ◌++◌, zero-add, arith}
use Rattle.zx_model.specs.Phase.{turn}
use Rattle.zx_model.specs.Proportional.{Proportional}
use Rattle.zx_calculus.specs.Graph.{Kind, with_kinds}
use Rattle.zx_calculus.specs.Sum.{graph_sum}
use Rattle.zx_calculus.specs.Gadgets.{fuse_kind}
use Rattle.zx_calculus.specs.Turns.{in_plane}
use Rattle.zx_calculus.proofs.Ids.{by_equal}
use Rattle.zx_calculus.proofs.StepIdentities.{with_kinds-kept}
use Rattle.zx_gates.specs.Circuit.{Circuit, IsCircuit}
use Rattle.zx_gates.specs.Maps.{amp}
use Rattle.zx_gates.specs.Counting.{is_cx, is_not}
use Rattle.zx_gates.specs.Internal.Scalars.{scalar}
use Rattle.zx_gates.specs.declared.gate.Gate.{Gate}
use Rattle.zx_gates.specs.declared.gate.Gate.TheVariants.{H, Phase, Cz, Cx, Not}
use Rattle.circuit_graph.specs.Translation.{by_hadamards, written_out, written_count, map_scalar, translated}
use Rattle.circuit_graph.specs.Internal.Runs.{GraphSoFar, begun, IsReady, IsRun, IsPhaseStep, Translates}
use Rattle.circuit_graph.proofs.RunLemmas.{run_comes, run-append}
use Rattle.circuit_graph.proofs.Whole.{run_translates, translated_map}
use Rattle.circuit_graph.proofs.WrittenOut.{count-cons}
use Rattle.teleport_laws.specs.Shifts.{shifted}
use Rattle.teleport_circuits.specs.Circuits.{with_phases, without_idle, with_gates, added_by}
use Rattle.circuit_graph.proofs.Existing.{ready}
use Rattle.teleport_circuits.proofs.Moving.{cut, on, left_on, translation, translates, shifted_state, run_there}
use Rattle.teleport_laws.proofs.Shifting.{plus_none}

-- ---- phase gates of phase 0 leave the graph as it is
idle_step : (s : GraphSoFar) (q : ℕ) (t : GraphSoFar) → IsReady s → IsPhaseStep s q 0 t → t ≡ s
idle_step s q t r c = λ i. record {
  graph = record { vertices = (c.peel.vertices ∙ kept) i; edges = c.peel.edges i; inputs = c.peel.inputs i; outputs = c.peel.outputs i };
  table = c.table i;
}
  where
    same : (p : ℕ) (kind : Kind) → kind.phase < turn → fuse_kind c.peel.vertex 0 p kind ≡ kind
    same p kind low =
        by_equal p c.peel.vertex (λ t e. rw t (ap (in_plane kind.plane) (plus_none kind.phase low))) (λ t n. rw t refl)

    kept : with_kinds (fuse_kind c.peel.vertex 0) s.graph.vertices ≡ s.graph.vertices
    kept = with_kinds-kept (fuse_kind c.peel.vertex 0) s.graph.vertices r.well_formed.phases_below_a_turn same

gate_left : (s t : GraphSoFar) (gate : Gate) (gates left : List Gate) → IsReady s → IsRun s (by_hadamards gate ++ written_out gates) t →
    ((u : GraphSoFar) → IsReady u → IsRun u (written_out gates) t → IsRun u (written_out left) t) → IsRun s (by_hadamards gate ++ written_out left) t
gate_left s t gate gates left r run rest =
    let parts = cut s (by_hadamards gate) (written_out gates) t run in
    run-append s (by_hadamards gate) parts.middle (written_out left) t parts.before
    (rest parts.middle (run_comes s (by_hadamards gate) parts.middle r parts.before).ready parts.behind)

run_left : (gates : List Gate) (t s : GraphSoFar) → IsReady s → IsRun s (written_out gates) t → IsRun s (written_out (without_idle gates)) t
run_left [] t s r run = run
run_left (H q ∷ gates) t s r run = gate_left s t (H q) gates (without_idle gates) r run (run_left gates t)
run_left (Cz p q ∷ gates) t s r run = gate_left s t (Cz p q) gates (without_idle gates) r run (run_left gates t)
run_left (Cx a b ∷ gates) t s r run = gate_left s t (Cx a b) gates (without_idle gates) r run (run_left gates t)
run_left (Not q ∷ gates) t s r run = gate_left s t (Not q) gates (without_idle gates) r run (run_left gates t)
run_left (Phase q k ∷ gates) t s r run =
    by_equal k 0
    (λ b e. rw b (run_left gates t s r
    (subst (λ u. IsRun u (written_out gates) t) (idle_step s q run.0 r (subst (λ j. IsPhaseStep s q j run.0) e run.1)) run.2)))
    (λ b n. rw b (gate_left s t (Phase q k) gates (without_idle gates) r run (run_left gates t)))

-- ---- all gates
module _ (c : Circuit) (phase : ℕ → ℕ) (formed : IsCircuit c) where
  pub translates_there : Translates (with_gates c (without_idle (with_phases phase 0 c.gates))) (shifted_state (added_by c phase) (translation c phase formed).last)
  translates_there =
      run_translates (with_gates c (without_idle (with_phases phase 0 c.gates))) (shifted_state (added_by c phase) (translation c phase formed).last) (ready c.qubits)
      (left_on c.qubits phase 0 c.gates (on c phase formed))
      (run_left (with_phases phase 0 c.gates) (shifted_state (added_by c phase) (translation c phase formed).last) (begun c.qubits) (ready c.qubits) (run_there c phase formed))

  pub graph_there : translated (with_gates c (without_idle (with_phases phase 0 c.gates))) ≡ shifted (added_by c phase) (translated c)
  graph_there = sym translates_there.graph ∙ ap (shifted (added_by c phase)) (translates c phase formed).graph

  pub map_there : Proportional c.qubits c.qubits (graph_sum (shifted (added_by c phase) (translated c))) (amp (without_idle (with_phases phase 0 c.gates)))
  map_there = subst (λ g. Proportional c.qubits c.qubits (graph_sum (shifted (added_by c phase) g)) (amp (without_idle (with_phases phase 0 c.gates)))) (translates c phase formed).graph
      (translated_map _ (shifted_state (added_by c phase) (translation c phase formed).last) translates_there)

-- ---- as many gates are written out
written-cons : (gate : Gate) (gates : List Gate) → written_count (gate ∷ gates) ≡ written_count (gate ∷ []) + written_count gates
written-cons gate gates = omega (arith, count-cons is_cx gate gates, count-cons is_not gate gates)

written_more : (gate : Gate) (gates left : List Gate) → written_count left ≡ written_count gates → written_count (gate ∷ left) ≡ written_count (gate ∷ gates)
written_more gate gates left same = omega (arith, written-cons gate gates, written-cons gate left, same)

written_none : (q k : ℕ) (gates : List Gate) → written_count (Phase q k ∷ gates) ≡ written_count gates
written_none q k gates = written-cons (Phase q k) gates ∙ zero-add (written_count gates)

written-left : (phase : ℕ → ℕ) (i : ℕ) (gates : List Gate) → written_count (without_idle (with_phases phase i gates)) ≡ written_count gates
written-left phase i [] = refl
written-left phase i (H q ∷ gates) = written_more (H q) gates (without_idle (with_phases phase (suc i) gates)) (written-left phase (suc i) gates)
written-left phase i (Cz p q ∷ gates) = written_more (Cz p q) gates (without_idle (with_phases phase (suc i) gates)) (written-left phase (suc i) gates)
written-left phase i (Cx a b ∷ gates) = written_more (Cx a b) gates (without_idle (with_phases phase (suc i) gates)) (written-left phase (suc i) gates)
written-left phase i (Not q ∷ gates) = written_more (Not q) gates (without_idle (with_phases phase (suc i) gates)) (written-left phase (suc i) gates)
written-left phase i (Phase q k ∷ gates) =
    let rest = written-left phase (suc i) gates in
    by_equal (phase i) 0
    (λ t e. rw t (rest ∙ sym (written_none q k gates)))
    (λ t n. rw t (written_none q (phase i) (without_idle (with_phases phase (suc i) gates)) ∙ rest ∙ sym (written_none q k gates)))

pub scalar-left : (phase : ℕ → ℕ) (i : ℕ) (gates : List Gate) → map_scalar (without_idle (with_phases phase i gates)) ≡ map_scalar gates
scalar-left phase i gates = ap (λ n. scalar (neg_ℤ (pos (2 * n))) 0) (written-left phase i gates)
