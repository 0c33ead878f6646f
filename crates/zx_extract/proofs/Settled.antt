-- Marks, phases and edges that are taken off the outputs.
use Rattle.std.proofs.Common.{◌≡◌, ◌≢◌, ⊎_elim, refl, sym, ◌∙◌, ap, ap₂, subst, ℕ, ◌+◌, ◌≤◌, Bool, true, false, cond, ◌&&◌, ◌||◌, eqb, eqb-true, List, [], ◌∷◌, length, true≢false, arith}
use Rattle.std.specs.Prelude.{slice_get}
use Rattle.std.proofs.lemmas.Bool.{or_cases}
use Rattle.std.proofs.lemmas.List.Elements.{All-cons, All-nil}
use Rattle.zx_model.specs.Bits.{xor, member}
use Rattle.zx_calculus.specs.Graph.{Vertex, Graph, ids, kind_of, plane_of, phase_of, joined, end_vertices, with_kinds, WellFormed, plain}
use Rattle.zx_calculus.specs.Turns.{in_plane}
use Rattle.zx_calculus.specs.Edits.{is_pair}
use Rattle.zx_calculus.proofs.Ids.{by_equal, and-left, and-right, eqb-self}
use Rattle.zx_calculus.proofs.Edges.{joined_comm}
use Rattle.zx_calculus.proofs.Vertices.{ids-with_kinds}
use Rattle.zx_calculus.proofs.Splitting.{no_loop}
use Rattle.zx_calculus.proofs.Splits.{is_pair-self}
use Rattle.zx_calculus.proofs.StepIdentities.{toggled_back}
use Rattle.gflow_laws.specs.Seen.{seen}
use Rattle.gflow_laws.specs.Flow.{IsFlow}
use Rattle.gflow_laws.specs.Outputs.{toggled}
use Rattle.gflow_laws.specs.Correcting.{Alike}
use Rattle.gflow_laws.proofs.Seeing.{phases_unseen}
use Rattle.gflow_laws.proofs.OutputLaws.{toggled_flow}
use Rattle.zx_calculus.proofs.ReducedLemmas.{length-places}
use Rattle.zx_gates.specs.Circuit.{IsOnQubits, most_qubits}
use Rattle.zx_gates.specs.declared.gate.Gate.TheVariants.{H, Cz}
use Rattle.zx_gates.specs.Lowering.{phase_gates}
use Rattle.circuit_laws.specs.Peeling.{HasPlainOutput, cleared_kind, marked, are_plain}
use Rattle.circuit_laws.proofs.Places.{member-places, places-same}
use Rattle.circuit_laws.proofs.Keeping.{mark_formed_back, edge_formed_back}
use Rattle.circuit_laws.proofs.Counts.{same_vertices}
use Rattle.circuit_laws.proofs.Settling.{mark_peels, edge_peels}
use Rattle.circuit_laws.proofs.GateLists.{mark_on, edge_on, cleared_on, gadget_on-few}
use Rattle.circuit_laws.proofs.Taken.{phase_cleared_formed, phase_cleared_zero, cleared_gates, cleared_odd}
use Rattle.zx_extract.specs.Internal.Leading.{Remainder, Leads, IsGiven, IsReady, Settles}
use Rattle.zx_extract.specs.Internal.Steps.{IsMarkTaken, IsPhaseTaken, IsEdgeTaken}
use Rattle.zx_extract.proofs.Places.{one_vertex}
use Rattle.zx_extract.proofs.Leads.{leads_same, leads_nothing, leads_then, leads_within}
use Rattle.zx_extract.proofs.Counting.{as_many_XY, as_many_others, as_many_XY_cleared, as_many_others_cleared, plane-cleared}

-- a graph that a flow sees alike
given_seen : (s t : Remainder) → IsGiven s → WellFormed t.graph → ids t.graph.vertices ≡ ids s.graph.vertices →
    ((v : ℕ) → plane_of t.graph v ≡ plane_of s.graph v) →
    t.graph.edges ≡ s.graph.edges → end_vertices t.graph.inputs ≡ end_vertices s.graph.inputs →
    end_vertices t.graph.outputs ≡ end_vertices s.graph.outputs → t.table ≡ s.table → IsGiven t
given_seen s t r w same_ids planes edges inputs outputs table = record {
  well_formed = w;
  flow = subst (IsFlow t.graph) (sym table) (phases_unseen s.graph t.graph s.table (sym same_ids) (λ v. sym (planes v))
      (sym edges) (sym inputs) (sym outputs) r.flow);
  planes = λ v live e. r.planes v (ap (member v) (sym same_ids) ∙ live) (sym (planes v) ∙ e);
  few = subst (λ n. n ≤ most_qubits) (sym (length-places s.graph.outputs) ∙ ap length (sym outputs)
      ∙ length-places t.graph.outputs) r.few;
}

-- ---- a mark
module _ (s : Remainder) (q : ℕ) (t : Remainder) (r : IsGiven s) (c : IsMarkTaken s q t) where
  same_places : end_vertices t.graph.outputs ≡ end_vertices s.graph.outputs
  same_places = ap end_vertices c.peel.outputs ∙ places-same s.graph.outputs q (marked c.peel.vertex)
      (plain c.peel.vertex) c.peel.output refl

  mark_formed : WellFormed t.graph
  mark_formed = mark_formed_back s.graph q t.graph r.well_formed c.peel

  pub mark_given : IsGiven t
  mark_given = given_seen s t r mark_formed (ap ids (sym c.peel.vertices))
      (λ v. ap (λ vs. (kind_of vs v).plane) (sym c.peel.vertices))
      (sym c.peel.edges) (ap end_vertices (sym c.peel.inputs)) same_places c.table

  pub mark_leads : Leads s 1 0 0 t
  mark_leads = leads_same s t 1 (H q ∷ []) c.gates (mark_peels s.graph q t.graph r.well_formed mark_formed c.peel)
      (omega (arith, same_vertices t.graph s.graph (sym c.peel.vertices)))
      (All-cons (IsOnQubits (length s.graph.outputs)) (H q) [] (mark_on s.graph q t.graph c.peel)
      (All-nil (IsOnQubits (length s.graph.outputs))))
      (omega arith) (as_many_XY s.graph t.graph (sym c.peel.vertices) same_places)
      (as_many_others s.graph t.graph (sym c.peel.vertices)) (sym c.peel.inputs)

-- ---- settling
pub settles_nothing : (s : Remainder) → IsReady s → Settles s 0 s
settles_nothing s r = record {
  leads = leads_nothing s;
  ready = r;
  table = refl;
  outputs = refl;
  phases =
      λ u e. e;
  edges = λ u v e. e;
}

pub settles_then : (s : Remainder) (k : ℕ) (t : Remainder) (l : ℕ) (u : Remainder) → Settles s k t → Settles t l u →
    Settles s (k + l) u
settles_then s k t l u a b = record {
  leads = leads_then s k 0 0 t l 0 0 u a.leads b.leads;
  ready = b.ready;
  table = b.table ∙ a.table;
  outputs = b.outputs ∙ a.outputs;
  phases = λ v e. b.phases v (a.phases v e);
  edges = λ v w e. b.edges v w (a.edges v w e);
}

pub settles_within : (s : Remainder) (k l : ℕ) (t : Remainder) → k ≤ l → Settles s k t → Settles s l t
settles_within s k l t within a = record {
  leads = leads_within s k 0 0 l t within a.leads;
  ready = a.ready;
  table = a.table;
  outputs = a.outputs;
  phases = a.phases;
  edges = a.edges;
}

-- ---- a phase
planes-cleared : (u : ℕ) (vs : List Vertex) (p : ℕ) → (kind_of (with_kinds (cleared_kind u) vs) p).plane ≡
    (kind_of vs p).plane
planes-cleared u [] p = refl
planes-cleared u (v ∷ vs) p = at (eqb p v.id) (planes-cleared u vs p)
  where
    at : (b : Bool) → (kind_of (with_kinds (cleared_kind u) vs) p).plane ≡ (kind_of vs p).plane →
        (cond b (cleared_kind u v.id v.kind) (kind_of (with_kinds (cleared_kind u) vs) p)).plane ≡
        (cond b v.kind (kind_of vs p)).plane
    at true again = plane-cleared u v.id v.kind
    at false again = again

phases-cleared : (u : ℕ) (vs : List Vertex) (p : ℕ) → (kind_of vs p).phase ≡ 0 →
    (kind_of (with_kinds (cleared_kind u) vs) p).phase ≡ 0
phases-cleared u [] p h = refl
phases-cleared u (v ∷ vs) p h = at (eqb p v.id) (phases-cleared u vs p) h
  where
    here : (b : Bool) → v.kind.phase ≡ 0 → (cond b (in_plane v.kind.plane 0) v.kind).phase ≡ 0
    here true e = refl
    here false e = e

    at : (b : Bool) → ((kind_of vs p).phase ≡ 0 → (kind_of (with_kinds (cleared_kind u) vs) p).phase ≡ 0) →
        (cond b v.kind (kind_of vs p)).phase ≡ 0 →
        (cond b (cleared_kind u v.id v.kind) (kind_of (with_kinds (cleared_kind u) vs) p)).phase ≡ 0
    at true again e = here (eqb v.id u) e
    at false again e = again e

module _ (s : Remainder) (q : ℕ) (t : Remainder) (r : IsReady s) (c : IsPhaseTaken s q t) where
  phase_ready : IsReady t
  phase_ready = record {
    given = given_seen s t r.given (phase_cleared_formed s.graph q t.graph r.given.well_formed c.cleared)
        (ap ids c.cleared.vertices ∙ ids-with_kinds (cleared_kind c.cleared.vertex) s.graph.vertices)
        (λ v. ap (λ vs. (kind_of vs v).plane) c.cleared.vertices ∙ planes-cleared c.cleared.vertex s.graph.vertices v)
        c.cleared.edges (ap end_vertices c.cleared.inputs) (ap end_vertices c.cleared.outputs) c.table;
    plain = ap are_plain c.cleared.outputs ∙ r.plain;
  }

  pub phase_settles : Settles s 1 t
  phase_settles = record {
    leads = leads_same s t 1 (phase_gates q (phase_of s.graph c.cleared.vertex)) c.gates
        (cleared_gates s.graph q t.graph r.given.well_formed c.cleared)
        (omega (arith, cleared_odd s.graph q t.graph r.given.well_formed c.cleared))
        (cleared_on s.graph q t.graph c.cleared) (omega (arith, gadget_on-few (phase_of s.graph c.cleared.vertex) q []))
        (as_many_XY_cleared s.graph t.graph c.cleared.vertex c.cleared.vertices c.cleared.outputs)
        (as_many_others_cleared s.graph t.graph c.cleared.vertex c.cleared.vertices) c.cleared.inputs;
    ready = phase_ready;
    table = c.table;
    outputs = c.cleared.outputs;
    phases = λ v e. ap (λ vs. (kind_of vs v).phase) c.cleared.vertices
        ∙ phases-cleared c.cleared.vertex s.graph.vertices v e;
    edges = λ v w e. ap (λ es. joined es v w) c.cleared.edges ∙ e;
  }

  pub phase_gone : (v : ℕ) → HasPlainOutput t.graph q v → phase_of t.graph v ≡ 0
  phase_gone v h = ap (phase_of t.graph) (one_vertex s.graph q v c.cleared.vertex
      (ap (λ es. slice_get es q) (sym c.cleared.outputs) ∙ h) c.cleared.output)
      ∙ phase_cleared_zero s.graph q t.graph r.given.well_formed c.cleared

-- ---- an edge
pair_joined : (g : Graph) (u v p q : ℕ) → joined g.edges u v ≡ true → is_pair u v p q ≡ true → joined g.edges p q ≡ true
pair_joined g u v p q there t = ⊎_elim
    (λ e. ap₂ (joined g.edges) (eqb-true p u (and-left _ _ e)) (eqb-true q v (and-right (eqb p u) _ e)) ∙ there)
    (λ e. ap₂ (joined g.edges) (eqb-true p v (and-left _ _ e)) (eqb-true q u (and-right (eqb p v) _ e))
    ∙ joined_comm g.edges v u ∙ there)
    (or_cases (eqb p u && eqb q v) (eqb p v && eqb q u) t)

left_over : (old new pair : Bool) → old ≡ xor new pair → old ≡ false → (pair ≡ true → old ≡ true) → new ≡ false
left_over old true true e f h = absurd (true≢false (sym (h refl) ∙ f))
left_over old true false e f h = sym (sym f ∙ e)
left_over old false b e f h = refl

module _ (s : Remainder) (p q : ℕ) (t : Remainder) (r : IsReady s) (c : IsEdgeTaken s p q t) where
  edge_formed : WellFormed t.graph
  edge_formed = edge_formed_back s.graph p q t.graph r.given.well_formed c.peel

  edges_toggled : (u v : ℕ) → u ≢ v → xor (joined s.graph.edges u v)
      (is_pair c.peel.first c.peel.second u v) ≡ joined t.graph.edges u v
  edges_toggled u v n = ap (λ b. xor b (is_pair c.peel.first c.peel.second u v)) (c.peel.edges u v n)
      ∙ toggled_back (joined t.graph.edges u v) (is_pair c.peel.first c.peel.second u v)

  is_toggled : Alike (toggled (seen s.graph) c.peel.first c.peel.second) (seen t.graph)
  is_toggled = record {
    ids = λ v. ap (λ vs. member v (ids vs)) c.peel.vertices;
    adjacent = λ v w _ _. by_equal v w
        (λ _ e. rw e (ap₂ xor (no_loop s.graph w r.given.well_formed)
        (is_pair-self c.peel.first c.peel.second c.peel.different w) ∙ sym (no_loop t.graph w edge_formed)))
        (λ _ n. edges_toggled v w n);
    plane = λ v _. ap (λ vs. (kind_of vs v).plane) c.peel.vertices;
    input = λ v _. ap (λ es. member v (end_vertices es)) c.peel.frame.inputs;
    output = λ v _. ap (λ es. member v (end_vertices es)) c.peel.frame.outputs;
  }

  edge_ready : IsReady t
  edge_ready = record {
    given = record {
      well_formed = edge_formed;
      flow = subst (IsFlow t.graph) (sym c.table)
          (toggled_flow s.graph c.peel.first c.peel.second t.graph s.table r.given.well_formed edge_formed is_toggled
          (member-places s.graph.outputs p (plain c.peel.first) c.peel.output)
          (member-places s.graph.outputs q (plain c.peel.second) c.peel.output_too) r.given.flow);
      planes = λ v live e. r.given.planes v (ap (λ vs. member v (ids vs)) c.peel.vertices ∙ live)
          (ap (λ vs. (kind_of vs v).plane) c.peel.vertices ∙ e);
      few = subst (λ es. length es ≤ most_qubits) c.peel.frame.outputs r.given.few;
    };
    plain = ap are_plain (sym c.peel.frame.outputs) ∙ r.plain;
  }

  pub edge_settles : Settles s 1 t
  edge_settles = record {
    leads = leads_same s t 1 (Cz p q ∷ []) c.gates (edge_peels s.graph p q t.graph r.given.well_formed edge_formed
        c.peel)
        (omega (arith, same_vertices t.graph s.graph (sym c.peel.vertices)))
        (All-cons (IsOnQubits (length s.graph.outputs)) (Cz p q) [] (edge_on s.graph p q t.graph c.peel)
        (All-nil (IsOnQubits (length s.graph.outputs))))
        (omega arith) (as_many_XY s.graph t.graph (sym c.peel.vertices) (ap end_vertices (sym c.peel.frame.outputs)))
        (as_many_others s.graph t.graph (sym c.peel.vertices)) (sym c.peel.frame.inputs);
    ready = edge_ready;
    table = c.table;
    outputs = sym c.peel.frame.outputs;
    phases = λ v e. ap (λ vs. (kind_of vs v).phase) (sym c.peel.vertices) ∙ e;
    edges = λ v w e. by_equal v w
        (λ _ same. rw same (no_loop t.graph w edge_formed))
        (λ _ n. left_over (joined s.graph.edges v w) (joined t.graph.edges v w)
        (is_pair c.peel.first c.peel.second v w) (c.peel.edges v w n) e
        (pair_joined s.graph c.peel.first c.peel.second v w c.there));
  }

  pub edge_gone : (u v : ℕ) → HasPlainOutput t.graph p u → HasPlainOutput t.graph q v → joined t.graph.edges u v ≡ false
  edge_gone u v h i =
      ap₂ (joined t.graph.edges) (one_vertex s.graph p u c.peel.first (ap (λ es. slice_get es p) c.peel.frame.outputs
      ∙ h) c.peel.output) (one_vertex s.graph q v c.peel.second (ap (λ es. slice_get es q) c.peel.frame.outputs
      ∙ i) c.peel.output_too)
      ∙ sym (edges_toggled c.peel.first c.peel.second c.peel.different)
      ∙ ap₂ xor c.there (ap₂ (λ a b. (a && b) || (eqb c.peel.first c.peel.second && eqb c.peel.second
      c.peel.first)) (eqb-self c.peel.first) (eqb-self c.peel.second))
