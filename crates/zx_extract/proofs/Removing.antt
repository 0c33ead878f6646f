-- The last vertex, a gadget, is taken off.
use Rattle.std.proofs.Common.{◌≡◌, ◌≢◌, refl, sym, ◌∙◌, ap, ap₂, subst, ℕ, ◌+◌, ◌*◌, ◌≤◌, cond, not, ◌&&◌, List, [], ◌∷◌, ◌++◌, filter, length, true≢false, le_of_eq, arith}
use Rattle.std.specs.Prelude.{slice_get}
use Rattle.zx_model.specs.Bits.{member, one_if}
use Rattle.zx_model.specs.Constants.{two}
use Rattle.zx_model.proofs.Ring.{mul-one}
use Rattle.zx_calculus.specs.Graph.{YZ, Vertex, plane_of, phase_of, end_vertices, is_XY, without, IsVertex, WellFormed, plain}
use Rattle.zx_calculus.specs.Edits.{IsRemoval}
use Rattle.zx_calculus.specs.Counts.{odd_phases, not_XY, XY_without_output}
use Rattle.zx_calculus.proofs.Splitting.{distinct}
use Rattle.zx_calculus.proofs.CountLemmas.{count, count_front}
use Rattle.zx_calculus.proofs.Counting.{YZ_apart, YZ_live}
use Rattle.gflow_laws.specs.Seen.{seen}
use Rattle.gflow_laws.specs.Flow.{is_in, IsFlow, SameSets}
use Rattle.gflow_laws.specs.Tables.{symmetric_difference}
use Rattle.gflow_laws.specs.Removals.{removal_table}
use Rattle.gflow_laws.specs.Outputs.{without_vertex, last_removed_table}
use Rattle.gflow_laws.specs.Correcting.{Alike}
use Rattle.gflow_laws.proofs.Flows.{Flows-from}
use Rattle.gflow_laws.proofs.Tables.{order_of-with_sets}
use Rattle.gflow_laws.proofs.Seeing.{flow-same_sets}
use Rattle.gflow_laws.proofs.LastLaws.{without_vertex_flow, removal-last}
use Rattle.std.specs.List.{All}
use Rattle.zx_model.specs.Internal.Powers.{power_of_two}
use Rattle.zx_gates.specs.Circuit.{IsOnQubits, gate_odd_phases, most_qubits}
use Rattle.zx_gates.specs.declared.gate.Gate.{Gate}
use Rattle.circuit_laws.specs.Followed.{PeelsAt}
use Rattle.circuit_laws.specs.Gates.{gadget_gates}
use Rattle.circuit_laws.specs.Peeling.{HasPlainOutput, are_plain}
use Rattle.circuit_laws.proofs.Places.{member-places}
use Rattle.circuit_laws.proofs.Keeping.{gadget_formed_back, linked_gadget_formed_back}
use Rattle.circuit_laws.proofs.Counts.{gadget_odd, linked_gadget_odd}
use Rattle.circuit_laws.proofs.Gadgets.{gadget_peels, linked_gadget_peels}
use Rattle.circuit_laws.proofs.GateLists.{gadget_on_outputs, linked_gadget_on_outputs, gadget_few, linked_gadget_few}
use Rattle.zx_extract.specs.Internal.Lists.{legs_of}
use Rattle.zx_extract.specs.Internal.Leading.{Remainder, Leads, IsReady, IsFrontier}
use Rattle.zx_extract.specs.Internal.Steps.{IsGadgetTaken, IsLinkedGadgetTaken, HasLast, AreLegs}
use Rattle.zx_extract.proofs.Lasts.{one_shorter}
use Rattle.zx_extract.proofs.Legs.{legs_as_many}
use Rattle.zx_extract.proofs.Rows.{same_sets_back}
use Rattle.zx_extract.proofs.LastVertex.{last_no_output}
use Rattle.zx_extract.proofs.WithoutVertex.{stays, ids_left, phase_left, plane_left, planes_left}

-- t is s without its last vertex v, which is in the YZ plane
pub record IsWithoutLast (s : Remainder) (v : ℕ) (t : Remainder) : Type 0 where
  pub ready : IsReady s
  pub frontier : IsFrontier s.graph
  pub last : HasLast s.table v
  pub plane : plane_of s.graph v ≡ YZ
  pub removal : IsRemoval s.graph v t.graph
  pub formed : WellFormed t.graph
  pub table : SameSets t.table (last_removed_table last.entry last.before)

module _ {s t : Remainder} {v : ℕ} (a : IsWithoutLast s v t) where
  there : IsVertex s.graph v
  there = YZ_live s.graph.vertices v a.plane

  alike : Alike (without_vertex (seen s.graph) v) (seen t.graph)
  alike = record {
    ids = ids_left s.graph t.graph v a.removal.vertices;
    adjacent = λ x y in_x in_y. sym (a.removal.edges x y (stays s.graph t.graph v a.removal.vertices x in_x)
        (stays s.graph t.graph v a.removal.vertices y in_y));
    plane = plane_left s.graph t.graph v a.removal.vertices;
    input = λ x _. ap (λ es. member x (end_vertices es)) (sym a.removal.frame.inputs);
    output = λ x _. ap (λ es. member x (end_vertices es)) (sym a.removal.frame.outputs);
  }

  flow_left : IsFlow t.graph (last_removed_table a.last.entry a.last.before)
  flow_left = subst (IsFlow t.graph)
      (ap (λ x. removal_table x (a.last.before ++ a.last.entry ∷ [])) (sym a.last.vertex)
      ∙ removal-last a.last.before a.last.entry (Flows-from (seen s.graph) (a.last.before ++ a.last.entry ∷ [])
      (subst (IsFlow s.graph) a.last.split a.ready.given.flow)).each_once)
      (without_vertex_flow s.graph v t.graph (a.last.before ++ a.last.entry ∷ [])
      a.ready.given.well_formed a.formed there (YZ_apart (plane_of s.graph v) a.plane) alike (subst (IsFlow s.graph) a.last.split a.ready.given.flow))

  pub removed_ready : IsReady t
  removed_ready = record {
    given = record {
      well_formed = a.formed;
      flow = flow-same_sets t.graph (last_removed_table a.last.entry a.last.before) t.table
          (same_sets_back a.table) flow_left;
      planes = planes_left s.graph t.graph v a.removal.vertices a.ready.given.planes;
      few = subst (λ es. length es ≤ most_qubits) (sym a.removal.frame.outputs) a.ready.given.few;
    };
    plain = ap are_plain a.removal.frame.outputs ∙ a.ready.plain;
  }

  not_v : (p w : ℕ) → HasPlainOutput s.graph p w → w ≢ v
  not_v p w o e = true≢false (sym (member-places s.graph.outputs p (plain w) o)
      ∙ ap (λ x. member x (end_vertices s.graph.outputs)) e ∙ last_no_output a.ready a.frontier a.last)

  pub removed_frontier : IsFrontier t.graph
  removed_frontier = record {
    phase = λ p w _ o. let there : HasPlainOutput s.graph p w = ap (λ es. slice_get es p) (sym a.removal.frame.outputs) ∙ o in
        phase_left s.graph t.graph v a.removal.vertices w (not_v p w there)
        ∙ a.frontier.phase p w refl there;
    apart = λ p q _ _ u w o i.
        let there : HasPlainOutput s.graph p u = ap (λ es. slice_get es p) (sym a.removal.frame.outputs) ∙ o in
        let there' : HasPlainOutput s.graph q w = ap (λ es. slice_get es q) (sym a.removal.frame.outputs) ∙ i in
        a.removal.edges u w (not_v p u there) (not_v q w there') ∙ a.frontier.apart p q refl refl u w there there';
  }

  pub removed_shorter : length t.table + 1 ≡ length s.table
  removed_shorter = one_shorter t.table a.last.before s.table a.last.entry
      (a.table.order ∙ order_of-with_sets (λ w members. cond (is_in members a.last.entry.vertex)
      (symmetric_difference members a.last.entry.members) members) a.last.before) a.last.split

  -- ---- how many are left
  pub removed_others : not_XY t.graph + 1 ≡ not_XY s.graph
  removed_others = one_less _ _ _ (ap (λ (vs : List Vertex). count (λ p k. not (is_XY k.plane)) vs) a.removal.vertices)
      (count_front (λ p k. not (is_XY k.plane)) v s.graph.vertices (distinct s.graph a.ready.given.well_formed) there
      ∙ ap (λ p. one_if (not (is_XY p)) + count (λ p k. not (is_XY k.plane)) (without v s.graph.vertices)) a.plane)
    where
      one_less : (left rest all : ℕ) → left ≡ rest → all ≡ 1 + rest → left + 1 ≡ all
      one_less left rest all e f = omega arith

  pub removed_XY : XY_without_output t.graph ≡ XY_without_output s.graph
  removed_XY =
      ap₂ (λ (vs : List Vertex) (us : List ℕ). length (filter
      (λ (x : Vertex). is_XY x.kind.plane && not (member x.id us)) vs)) a.removal.vertices (ap end_vertices a.removal.frame.outputs)
      ∙ sym (count_front (λ p k. is_XY k.plane && not (member p (end_vertices s.graph.outputs))) v s.graph.vertices
      (distinct s.graph a.ready.given.well_formed) there
      ∙ ap (λ p. one_if (is_XY p && not (member v (end_vertices s.graph.outputs))) + count
      (λ p k. is_XY k.plane && not (member p (end_vertices s.graph.outputs))) (without v s.graph.vertices)) a.plane
      ∙ none_more _)
    where
      none_more : (n : ℕ) → 0 + n ≡ n
      none_more n = omega arith

  -- with the gates that are taken off by that
  unfoldable pub removed_leads : {k : ℕ} {taken : List Gate} (doublings : ℕ) → doublings ≤ 1 → t.gates ≡ taken ++ s.gates →
      PeelsAt (power_of_two doublings) s.graph taken t.graph →
      odd_phases t.graph + gate_odd_phases taken ≤ odd_phases s.graph →
      All (IsOnQubits (length s.graph.outputs)) taken → length taken ≤ k → Leads s k 0 1 t
  removed_leads {k} {taken} doublings once gates map odd on few = record {
    taken = taken;
    gates = gates;
    doublings = doublings;
    map = map;
    few_doublings = once;
    odd = odd;
    on_qubits = on;
    few = few;
    XY = none_gone _ _ removed_XY;
    others = removed_others;
    inputs = a.removal.frame.inputs;
    outputs = ap length a.removal.frame.outputs;
  }
    where
      none_gone : (x y : ℕ) → x ≡ y → x + 0 ≡ y
      none_gone x y e = omega arith

-- ---- a gadget on outputs
module _ {s t : Remainder} {v : ℕ} {qubits : List ℕ} (r : IsReady s) (f : IsFrontier s.graph)
    (a : IsGadgetTaken s v qubits t) where
  pub gadget_gone : IsWithoutLast s v t
  gadget_gone = record {
    ready = r;
    frontier = f;
    last = a.last;
    plane = a.peel.plane;
    removal = a.peel.removal;
    formed = gadget_formed_back s.graph v qubits t.graph r.given.well_formed a.peel;
    table = a.table;
  }

  unfoldable pub gadget_leads : AreLegs s.graph v qubits → Leads s (2 * length (legs_of s.graph v)) 0 1 t
  gadget_leads legs = removed_leads gadget_gone 1 (omega arith) a.gates
      (subst (λ c. PeelsAt c s.graph (gadget_gates (phase_of s.graph v) qubits) t.graph) (sym (mul-one two))
      (gadget_peels s.graph v qubits t.graph r.given.well_formed gadget_gone.formed a.peel))
      (gadget_odd s.graph v qubits t.graph r.given.well_formed a.peel)
      (gadget_on_outputs s.graph v qubits t.graph a.peel)
      (omega (arith, gadget_few (phase_of s.graph v) qubits, legs_as_many s.graph v qubits legs))

-- ---- a gadget through an output
module _ {s t : Remainder} {v q : ℕ} {qubits : List ℕ} (r : IsReady s) (f : IsFrontier s.graph)
    (a : IsLinkedGadgetTaken s v q qubits t) where
  pub linked_gone : IsWithoutLast s v t
  linked_gone = record {
    ready = r;
    frontier = f;
    last = a.last;
    plane = a.peel.plane;
    removal = a.peel.removal;
    formed = linked_gadget_formed_back s.graph v q qubits t.graph r.given.well_formed a.peel;
    table = a.table;
  }

  unfoldable pub linked_leads : AreLegs s.graph v qubits → Leads s (2 * length (legs_of s.graph v) + 3) 0 1 t
  linked_leads legs = removed_leads linked_gone 0 (omega arith) a.gates
      (linked_gadget_peels s.graph v q qubits t.graph r.given.well_formed linked_gone.formed a.peel)
      (le_of_eq (sym (linked_gadget_odd s.graph v q qubits t.graph r.given.well_formed a.peel)))
      (linked_gadget_on_outputs s.graph v q qubits t.graph a.peel)
      (omega (arith, linked_gadget_few (phase_of s.graph v) q qubits, legs_as_many s.graph v qubits legs))
