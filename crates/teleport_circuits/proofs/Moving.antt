-- With other phases, the gates of a circuit make its graph with the differences added.
use Rattle.std.proofs.Common.{◌≡◌, ◌≢◌, inl, inr, refl, sym, ◌∙◌, ap, subst, ℕ, suc, ◌<◌, Bool, true, false, cond, eqb, List, [], ◌∷◌, ◌++◌, length, true≢false, ne_eqb, arith}
use Rattle.std.specs.Prelude.{slice_get, Some}
use Rattle.std.specs.List.{All}
use Rattle.std.proofs.lemmas.List.Elements.{All-head, All-tail, All-cons, All-nil}
use Rattle.std.proofs.lemmas.List.FromFn.{length-map-range_with_len}
use Rattle.zx_model.specs.Phase.{turn, half_turn, sum_of_phases, opposite_phase}
use Rattle.zx_model.specs.Bits.{member}
use Rattle.zx_calculus.specs.Graph.{Kind, Graph, ids, with_kinds, insert_vertex, OrderedEdges, plain}
use Rattle.zx_calculus.specs.Splits.{spider_of_phase_zero}
use Rattle.zx_calculus.specs.Gadgets.{fuse_kind}
use Rattle.zx_calculus.specs.Turns.{in_plane}
use Rattle.zx_calculus.specs.Graph.{XY}
use Rattle.zx_calculus.proofs.Ids.{by_equal, or-right}
use Rattle.zx_calculus.proofs.Vertices.{ids-with_kinds, length-with_kinds, with_kinds_same, member-insert}
use Rattle.zx_calculus.proofs.ChangedKinds.{with_kinds-with_kinds, with_kinds-insert}
use Rattle.zx_gates.specs.Circuit.{Circuit, IsCircuit, IsOnQubits, IsBelowATurn}
use Rattle.zx_gates.specs.declared.gate.Gate.{Gate}
use Rattle.zx_gates.specs.declared.gate.Gate.TheVariants.{H, Phase, Cz, Cx, Not}
use Rattle.circuit_laws.specs.Peeling.{HasPlainOutput}
use Rattle.circuit_graph.specs.Translation.{by_hadamards, written_out, phase_vertex, last_spider, wires}
use Rattle.circuit_graph.specs.Internal.Runs.{GraphSoFar, begun, IsReady, IsGateStep, IsRun, IsSpiderStep, IsPhaseStep, IsToggleStep, Comes, Translates}
use Rattle.circuit_graph.proofs.RunLemmas.{run_comes, run-append}
use Rattle.circuit_graph.proofs.Gates.{gate_comes}
use Rattle.circuit_graph.proofs.Graphs.{last_spider_is}
use Rattle.circuit_graph.proofs.Calls.{here_live}
use Rattle.circuit_graph.proofs.Whole.{run_translates}
use Rattle.teleport_laws.specs.Shifts.{add_kind, shifted, IsShift}
use Rattle.teleport_laws.proofs.Shifting.{ids-shifted}
use Rattle.teleport_laws.proofs.Runs.{shifted-none}
use Rattle.teleport_circuits.specs.Circuits.{IsSkeleton, phase_in, with_phase_in, with_phases, without_idle, added_at, added_from, added_by}
use Rattle.circuit_graph.proofs.Wiring.{wires_formed}
use Rattle.circuit_graph.proofs.Existing.{HasRun, ready, gates_run}

abbrev pub shifted_state : (ℕ → ℕ) → GraphSoFar → GraphSoFar
shifted_state more s = record { graph = shifted more s.graph; table = s.table }

ordered-shifted : (more : ℕ → ℕ) (g : Graph) → OrderedEdges (ids g.vertices) g.edges → OrderedEdges (ids (shifted more g).vertices) g.edges
ordered-shifted more g o = subst (λ vs. OrderedEdges vs g.edges) (sym (ids-shifted more g)) o

-- what a gate leads to
record Shifts (s : GraphSoFar) (gates : List Gate) (more after : ℕ → ℕ) (t : GraphSoFar) : Type 0 where
  pub run : IsRun (shifted_state more s) gates (shifted_state after t)
  pub shift : IsShift t.graph after

-- ---- gates that stay
spider_shifts : (s : GraphSoFar) (q : ℕ) (t : GraphSoFar) (more : ℕ → ℕ) → IsShift s.graph more → IsSpiderStep s q t → IsSpiderStep (shifted_state more s) q (shifted_state more t)
spider_shifts s q t more shift c = record {
  peel = record {
    spider = c.peel.spider;
    next = c.peel.next;
    fresh = ap (member c.peel.spider) (ids-shifted more s.graph) ∙ c.peel.fresh;
    output = c.peel.output;
    vertices = ap (with_kinds (add_kind more)) c.peel.vertices ∙ with_kinds-insert (add_kind more) (spider_of_phase_zero c.peel.spider) s.graph.vertices
        ∙ ap (λ k. insert_vertex (record { id = c.peel.spider; kind = in_plane XY (sum_of_phases 0 k) }) (with_kinds (add_kind more) s.graph.vertices)) (shift.absent c.peel.spider c.peel.fresh);
    ordered = ordered-shifted more t.graph c.peel.ordered;
    ordered_too = ordered-shifted more s.graph c.peel.ordered_too;
    edges = c.peel.edges;
    inputs = c.peel.inputs;
    outputs = c.peel.outputs;
  };
  id = c.id ∙ sym (length-with_kinds (add_kind more) s.graph.vertices);
  table = c.table;
}

toggle_shifts : (s : GraphSoFar) (p q : ℕ) (t : GraphSoFar) (more : ℕ → ℕ) → IsToggleStep s p q t → IsToggleStep (shifted_state more s) p q (shifted_state more t)
toggle_shifts s p q t more c = record {
  peel = record {
    first = c.peel.first;
    second = c.peel.second;
    different = c.peel.different;
    output = c.peel.output;
    output_too = c.peel.output_too;
    vertices = ap (with_kinds (add_kind more)) c.peel.vertices;
    ordered_too = ordered-shifted more s.graph c.peel.ordered_too;
    edges = c.peel.edges;
    frame = record { ordered = ordered-shifted more t.graph c.peel.frame.ordered; inputs = c.peel.frame.inputs; outputs = c.peel.frame.outputs };
  };
  table = c.table;
}

same_ids_shift : (s t : Graph) (more : ℕ → ℕ) → IsShift s more → ids t.vertices ≡ ids s.vertices → IsShift t more
same_ids_shift s t more shift e = record { below = shift.below; absent = λ v absent. shift.absent v (sym (ap (member v) e) ∙ absent) }

-- ---- another phase
other_phase : (a k m l : ℕ) → k < turn → sum_of_phases (sum_of_phases a k) (sum_of_phases m (sum_of_phases l (opposite_phase k))) ≡ sum_of_phases (sum_of_phases a m) l
other_phase a k m l low = omega arith

pub output_before : (s : GraphSoFar) (q k : ℕ) (t : GraphSoFar) (c : IsPhaseStep s q k t) → HasPlainOutput s.graph q c.peel.vertex
output_before s q k t c = ap (λ es. slice_get es q) (sym c.peel.outputs) ∙ c.peel.output

pub phase_here : (s : GraphSoFar) (q k : ℕ) (t : GraphSoFar) (c : IsPhaseStep s q k t) → c.peel.vertex ≡ last_spider s.graph q
phase_here s q k t c = sym (last_spider_is s.graph.outputs q c.peel.vertex (output_before s q k t c))

module _ (s : GraphSoFar) (q k l : ℕ) (t : GraphSoFar) (more : ℕ → ℕ) (r : IsReady s) (low : k < turn) (shift : IsShift s.graph more) (c : IsPhaseStep s q k t) where
  abbrev difference : ℕ
  difference = sum_of_phases l (opposite_phase k)

  abbrev after : ℕ → ℕ
  after = added_at (Some (last_spider s.graph q)) difference more

  kinds : (u p : ℕ) (kind : Kind) → add_kind (added_at (Some u) difference more) p (fuse_kind u k p kind) ≡ fuse_kind u l p (add_kind more p kind)
  kinds u p kind =
      by_equal p u (λ t e. rw t (ap (in_plane kind.plane) (other_phase kind.phase k (more p) l low))) (λ t n. rw t refl)

  pub phase_shifts : IsPhaseStep (shifted_state more s) q l (shifted_state after t)
  phase_shifts = record {
    peel = record {
      vertex = c.peel.vertex;
      output = c.peel.output;
      vertices =
          ap (λ u. with_kinds (add_kind (added_at (Some u) difference more)) t.graph.vertices) (sym (phase_here s q k t c))
          ∙ ap (with_kinds (add_kind (added_at (Some c.peel.vertex) difference more))) c.peel.vertices
          ∙ with_kinds-with_kinds (add_kind (added_at (Some c.peel.vertex) difference more)) (fuse_kind c.peel.vertex k) s.graph.vertices
          ∙ with_kinds_same _ (λ p kind. fuse_kind c.peel.vertex l p (add_kind more p kind)) s.graph.vertices (λ p kind there. kinds c.peel.vertex p kind)
          ∙ sym (with_kinds-with_kinds (fuse_kind c.peel.vertex l) (add_kind more) s.graph.vertices);
      edges = c.peel.edges;
      inputs = c.peel.inputs;
      outputs = c.peel.outputs;
    };
    table = c.table;
  }

  low_sum : (i j : ℕ) → sum_of_phases i j < turn
  low_sum i j = omega arith

  cond_low : (b : Bool) (i j : ℕ) → i < turn → j < turn → cond b i j < turn
  cond_low true i j x y = x
  cond_low false i j x y = y

  pub phase_shift : IsShift t.graph after
  phase_shift = record {
    below = λ v. cond_low (eqb v (last_spider s.graph q)) _ _ (low_sum (more v) difference) (shift.below v);
    absent = λ v absent.
        let before : member v (ids s.graph.vertices) ≡ false = sym (ap (member v) (ap ids c.peel.vertices ∙ ids-with_kinds (fuse_kind c.peel.vertex k) s.graph.vertices)) ∙ absent in
        let apart : v ≢ last_spider s.graph q = λ e. true≢false (sym (here_live s.graph q c.peel.vertex r.well_formed (output_before s q k t c)) ∙ ap (λ u. member u (ids s.graph.vertices)) (phase_here s q k t c ∙ sym e) ∙ before) in
        ap (λ b. cond b (sum_of_phases (more v) difference) (more v)) (ne_eqb v (last_spider s.graph q) apart) ∙ shift.absent v before;
  }

-- ---- gates in a row
step_shifts : (s : GraphSoFar) (gate : Gate) (t : GraphSoFar) (more : ℕ → ℕ) → IsReady s → IsShift s.graph more → IsBelowATurn gate → IsGateStep s gate t → Shifts s (gate ∷ []) more more t
step_shifts s (H q) t more r shift low c = record {
  run = (shifted_state more t, spider_shifts s q t more shift c, refl);
  shift = record {
    below = shift.below;
    absent = λ v absent. shift.absent v (or-right (eqb v c.peel.spider) _ (sym (member-insert v (spider_of_phase_zero c.peel.spider) s.graph.vertices) ∙ sym (ap (λ vs. member v (ids vs)) c.peel.vertices) ∙ absent));
  };
}
step_shifts s (Cz p q) t more r shift low c = record {
  run = (shifted_state more t, toggle_shifts s p q t more c, refl);
  shift = same_ids_shift s.graph t.graph more shift (ap ids c.peel.vertices);
}
step_shifts s (Phase q k) t more r shift low c = subst (λ m. Shifts s (Phase q k ∷ []) more m t) (λ i v. same v i)
    (record { run = (shifted_state (added_at (Some (last_spider s.graph q)) (sum_of_phases k (opposite_phase k)) more) t, phase_shifts s q k k t more r low shift c, refl); shift = phase_shift s q k k t more r low shift c })
  where
    none : (m k : ℕ) → k < turn → m < turn → sum_of_phases m (sum_of_phases k (opposite_phase k)) ≡ m
    none m k lt lt' = omega arith

    same : (v : ℕ) → added_at (Some (last_spider s.graph q)) (sum_of_phases k (opposite_phase k)) more v ≡ more v
    same v = by_equal v (last_spider s.graph q) (λ t e. rw t (none (more v) k low (shift.below v))) (λ t n. rw t refl)
step_shifts s (Cx control target) t more r shift low c = absurd c
step_shifts s (Not q) t more r shift low c = absurd c

then_shifts : (s : GraphSoFar) (first second : List Gate) (k t : GraphSoFar) (more between after : ℕ → ℕ) → Shifts s first more between k → Shifts k second between after t → Shifts s (first ++ second) more after t
then_shifts s first second k t more between after a b = record {
  run = run-append (shifted_state more s) first (shifted_state between k) second (shifted_state after t) a.run b.run;
  shift = b.shift;
}

follows : (s : GraphSoFar) (gates : List Gate) (t : GraphSoFar) (more : ℕ → ℕ) → IsReady s → IsShift s.graph more → All IsBelowATurn gates → IsRun s gates t → Shifts s gates more more t
follows s [] t more r shift low run = record { run = ap (shifted_state more) run; shift = subst (λ (u : GraphSoFar). IsShift u.graph more) run shift }
follows s (gate ∷ gates) t more r shift low run =
    let first = step_shifts s gate run.0 more r shift (All-head IsBelowATurn gate gates low) run.1 in
    then_shifts s (gate ∷ []) gates run.0 t more more more first
    (follows run.0 gates t more (gate_comes s gate run.0 r run.1).ready first.shift (All-tail IsBelowATurn gate gates low) run.2)

-- a gate of the circuit, written out
gate_shifts : (s : GraphSoFar) (gate : Gate) (l : ℕ) (t : GraphSoFar) (more : ℕ → ℕ) → IsReady s → IsShift s.graph more → IsBelowATurn gate → IsRun s (by_hadamards gate) t →
    Shifts s (by_hadamards (with_phase_in l gate)) more (added_at (phase_vertex s.graph gate) (sum_of_phases l (opposite_phase (phase_in gate))) more) t
gate_shifts s (H q) l t more r shift low run = follows s (H q ∷ []) t more r shift (All-cons IsBelowATurn (H q) [] tt (All-nil IsBelowATurn)) run
gate_shifts s (Cz p q) l t more r shift low run = follows s (Cz p q ∷ []) t more r shift (All-cons IsBelowATurn (Cz p q) [] tt (All-nil IsBelowATurn)) run
gate_shifts s (Cx control target) l t more r shift low run =
    follows s (by_hadamards (Cx control target)) t more r shift
    (All-cons IsBelowATurn (H target) (Cz control target ∷ H target ∷ []) tt (All-cons IsBelowATurn (Cz control target) (H target ∷ []) tt (All-cons IsBelowATurn (H target) [] tt (All-nil IsBelowATurn)))) run
gate_shifts s (Not q) l t more r shift low run =
    follows s (by_hadamards (Not q)) t more r shift
    (All-cons IsBelowATurn (H q) (Phase q half_turn ∷ H q ∷ []) tt (All-cons IsBelowATurn (Phase q half_turn) (H q ∷ []) (omega arith) (All-cons IsBelowATurn (H q) [] tt (All-nil IsBelowATurn)))) run
gate_shifts s (Phase q k) l t more r shift low run =
    subst (λ u. Shifts s (Phase q l ∷ []) more (added_at (Some (last_spider s.graph q)) (sum_of_phases l (opposite_phase k)) more) u) run.2
    (record { run = (shifted_state (added_at (Some (last_spider s.graph q)) (sum_of_phases l (opposite_phase k)) more) run.0, phase_shifts s q k l run.0 more r low shift run.1, refl); shift = phase_shift s q k l run.0 more r low shift run.1 })

-- a run cut in two
pub record IsCut (s : GraphSoFar) (first second : List Gate) (t : GraphSoFar) : Type 0 where
  pub middle : GraphSoFar
  pub before : IsRun s first middle
  pub behind : IsRun middle second t

pub cut : (s : GraphSoFar) (first second : List Gate) (t : GraphSoFar) → IsRun s (first ++ second) t → IsCut s first second t
cut s [] second t run = record { middle = s; before = refl; behind = run }
cut s (gate ∷ first) second t run =
    let rest = cut run.0 first second t run.2 in record { middle = rest.middle; before = (run.0, run.1, rest.before); behind = rest.behind }

gates_shift : (phase : ℕ → ℕ) (i : ℕ) (gates : List Gate) (s t : GraphSoFar) (more : ℕ → ℕ) → IsReady s → IsShift s.graph more → All IsBelowATurn gates → IsRun s (written_out gates) t →
    Shifts s (written_out (with_phases phase i gates)) more (added_from phase i s.graph gates more) t
gates_shift phase i [] s t more r shift low run = follows s [] t more r shift low run
gates_shift phase i (gate ∷ gates) s t more r shift low run =
    let parts : IsCut s (by_hadamards gate) (written_out gates) t = cut s (by_hadamards gate) (written_out gates) t run in
    let comes : Comes s (by_hadamards gate) parts.middle = run_comes s (by_hadamards gate) parts.middle r parts.before in
    let first = gate_shifts s gate (phase i) parts.middle more r shift (All-head IsBelowATurn gate gates low) parts.before in
    then_shifts s (by_hadamards (with_phase_in (phase i) gate)) (written_out (with_phases phase (suc i) gates)) parts.middle t more
    (added_at (phase_vertex s.graph gate) (sum_of_phases (phase i) (opposite_phase (phase_in gate))) more) _ first
    (subst (λ g. Shifts parts.middle (written_out (with_phases phase (suc i) gates)) (added_at (phase_vertex s.graph gate) (sum_of_phases (phase i) (opposite_phase (phase_in gate))) more)
    (added_from phase (suc i) g gates (added_at (phase_vertex s.graph gate) (sum_of_phases (phase i) (opposite_phase (phase_in gate))) more)) t) comes.graph
    (gates_shift phase (suc i) gates parts.middle t (added_at (phase_vertex s.graph gate) (sum_of_phases (phase i) (opposite_phase (phase_in gate))) more) comes.ready first.shift
    (All-tail IsBelowATurn gate gates low) parts.behind))

-- ---- phase gates of phase 0
pub left_on : (n : ℕ) (phase : ℕ → ℕ) (i : ℕ) (gates : List Gate) → All (IsOnQubits n) gates → All (IsOnQubits n) (without_idle (with_phases phase i gates))
left_on n phase i [] on = on
left_on n phase i (H q ∷ gates) on = All-cons (IsOnQubits n) (H q) _ (All-head (IsOnQubits n) (H q) gates on) (left_on n phase (suc i) gates (All-tail (IsOnQubits n) (H q) gates on))
left_on n phase i (Cz p q ∷ gates) on = All-cons (IsOnQubits n) (Cz p q) _ (All-head (IsOnQubits n) (Cz p q) gates on) (left_on n phase (suc i) gates (All-tail (IsOnQubits n) (Cz p q) gates on))
left_on n phase i (Cx a b ∷ gates) on = All-cons (IsOnQubits n) (Cx a b) _ (All-head (IsOnQubits n) (Cx a b) gates on) (left_on n phase (suc i) gates (All-tail (IsOnQubits n) (Cx a b) gates on))
left_on n phase i (Not q ∷ gates) on = All-cons (IsOnQubits n) (Not q) _ (All-head (IsOnQubits n) (Not q) gates on) (left_on n phase (suc i) gates (All-tail (IsOnQubits n) (Not q) gates on))
left_on n phase i (Phase q k ∷ gates) on =
    let rest = left_on n phase (suc i) gates (All-tail (IsOnQubits n) (Phase q k) gates on) in
    by_equal (phase i) 0 (λ t e. rw t rest)
    (λ t apart. rw t (All-cons (IsOnQubits n) (Phase q (phase i)) _ ((All-head (IsOnQubits n) (Phase q k) gates on).0, apart) rest))

pub skeleton_left : (phase : ℕ → ℕ) (i : ℕ) (gates : List Gate) → IsSkeleton gates (without_idle (with_phases phase i gates))
skeleton_left phase i [] = refl
skeleton_left phase i (H q ∷ gates) = (without_idle (with_phases phase (suc i) gates), refl, skeleton_left phase (suc i) gates)
skeleton_left phase i (Cz p q ∷ gates) = (without_idle (with_phases phase (suc i) gates), refl, skeleton_left phase (suc i) gates)
skeleton_left phase i (Cx a b ∷ gates) = (without_idle (with_phases phase (suc i) gates), refl, skeleton_left phase (suc i) gates)
skeleton_left phase i (Not q ∷ gates) = (without_idle (with_phases phase (suc i) gates), refl, skeleton_left phase (suc i) gates)
skeleton_left phase i (Phase q k ∷ gates) =
    let rest = skeleton_left phase (suc i) gates in
    by_equal (phase i) 0 (λ t e. rw t (inr rest)) (λ t apart. rw t (inl (phase i, without_idle (with_phases phase (suc i) gates), refl, rest)))

-- ---- all gates
none_more : (g : Graph) → IsShift g (λ v. 0)
none_more g = record { below = λ v. omega arith; absent = λ v absent. refl }

module _ (c : Circuit) (phase : ℕ → ℕ) (formed : IsCircuit c) where
  pub on : All (IsOnQubits c.qubits) c.gates
  on = λ k d within. (formed.on_qubits k d within).0

  outputs_begun : length (wires c.qubits).outputs ≡ c.qubits
  outputs_begun = length-map-range_with_len plain 0 c.qubits

  pub translation : HasRun (begun c.qubits) (written_out c.gates)
  translation = gates_run c.qubits c.gates on (begun c.qubits) (ready c.qubits) outputs_begun

  pub translates : Translates c translation.last
  translates = run_translates c translation.last (ready c.qubits) on translation.run

  new_gates : List Gate
  new_gates = with_phases phase 0 c.gates

  -- the graph with the differences, as its gates make it
  last : GraphSoFar
  last = shifted_state (added_by c phase) translation.last

  pub run_there : IsRun (begun c.qubits) (written_out (with_phases phase 0 c.gates)) (shifted_state (added_by c phase) translation.last)
  run_there =
      subst (λ g. IsRun (record { graph = g; table = [] }) (written_out (with_phases phase 0 c.gates)) (shifted_state (added_by c phase) translation.last)) (shifted-none (wires c.qubits) (λ v. 0) (wires_formed c.qubits) (λ v. refl))
      (gates_shift phase 0 c.gates (begun c.qubits) translation.last (λ v. 0) (ready c.qubits) (none_more (wires c.qubits)) (λ k d within. (formed.on_qubits k d within).1) translation.run).run
