-- What each gate does to a translation under way.
use Rattle.std.proofs.Common.{◌≡◌, refl, sym, ◌∙◌, ap, ap₂, subst, ℕ, ◌+◌, Bool, true, false, cond, ltb, eqb, List, [], ◌∷◌, ◌++◌, append-nil, length, set, le_of_eq, arith, ◌||◌, ltb-true, lt-ltb, le-ltb}
use Rattle.std.proofs.lemmas.Bool.{ltb_from_iff}
use Rattle.std.proofs.Math.ListN.{length-set}
use Rattle.std.proofs.lemmas.List.{set-set}
use Rattle.std.specs.Prelude.{slice_get, Some}
use Rattle.zx_model.specs.Bits.{xor, member}
use Rattle.zx_calculus.specs.Graph.{XY, Kind, Vertex, End, Graph, ids, kind_of, plane_of, end_vertices, in_order, different, with_kinds, insert_vertex, WellFormed, plain}
use Rattle.zx_calculus.specs.Splits.{spider_of_phase_zero, move_end, least_free}
use Rattle.zx_calculus.specs.Gadgets.{fuse_kind}
use Rattle.zx_calculus.specs.Turns.{with_phase_added}
use Rattle.zx_calculus.proofs.Ids.{by_equal}
use Rattle.zx_calculus.proofs.Vertices.{ids-with_kinds, length-with_kinds, kind_of-insert, length-insert, member-insert}
use Rattle.zx_calculus.proofs.LeastFree.{least_free-unique}
use Rattle.zx_calculus.proofs.Splitting.{no_loop}
use Rattle.zx_calculus.proofs.Splits.{is_pair-self}
use Rattle.zx_calculus.proofs.Kept.{kind_of-insert_other}
use Rattle.zx_calculus.proofs.Edits.{set-move_end}
use Rattle.gflow_laws.specs.Seen.{seen}
use Rattle.gflow_laws.specs.Flow.{IsFlow, SameSets}
use Rattle.gflow_laws.specs.Splits.{split_output_table}
use Rattle.gflow_laws.specs.Outputs.{toggled, IsNewOutput}
use Rattle.gflow_laws.specs.Correcting.{Alike}
use Rattle.gflow_laws.proofs.Seeing.{phases_unseen, flow-same_sets}
use Rattle.gflow_laws.proofs.Rewriting.{same_of_equal}
use Rattle.gflow_laws.proofs.OutputLaws.{toggled_flow}
use Rattle.gflow_laws.proofs.Splits.{new_output_flow}
use Rattle.zx_gates.specs.declared.gate.Gate.{Gate}
use Rattle.zx_gates.specs.declared.gate.Gate.TheVariants.{H, Phase, Cz, Cx, Not}
use Rattle.circuit_laws.specs.Peeling.{IsSpiderPeel, IsEdgePeel, marked, are_plain}
use Rattle.circuit_laws.proofs.Places.{member-places, places-same, slice_get-set, plain-set}
use Rattle.circuit_laws.proofs.Keeping.{spider_formed, phase_formed, edge_formed}
use Rattle.circuit_laws.proofs.Counts.{same_vertices, phase_odd, spider_odd}
use Rattle.circuit_laws.proofs.Settling.{phase_peels, edge_peels}
use Rattle.circuit_laws.proofs.Advancing.{spider_peels}
use Rattle.circuit_graph.specs.Translation.{last_spider, with_spider}
use Rattle.circuit_graph.proofs.Graphs.{last_spider_is, spider_is, phase_is, toggle_is}
use Rattle.circuit_graph.specs.Internal.Runs.{GraphSoFar, AreNumbered, IsReady, IsSpiderStep, IsPhaseStep, IsToggleStep, IsGateStep, Comes}

-- an added phase changes no plane
plane-fused : (u k p : ℕ) (kind : Kind) → (fuse_kind u k p kind).plane ≡ kind.plane
plane-fused u k p kind = at (eqb p u)
  where
    at : (b : Bool) → (cond b (with_phase_added k kind) kind).plane ≡ kind.plane
    at true = refl
    at false = refl

planes-fused : (u k : ℕ) (vs : List Vertex) (p : ℕ) → (kind_of (with_kinds (fuse_kind u k) vs) p).plane ≡ (kind_of vs p).plane
planes-fused u k [] p = refl
planes-fused u k (v ∷ vs) p = at (eqb p v.id) (planes-fused u k vs p)
  where
    at : (b : Bool) → (kind_of (with_kinds (fuse_kind u k) vs) p).plane ≡ (kind_of vs p).plane →
        (cond b (fuse_kind u k v.id v.kind) (kind_of (with_kinds (fuse_kind u k) vs) p)).plane ≡ (cond b v.kind (kind_of vs p)).plane
    at true again = plane-fused u k v.id v.kind
    at false again = again

pub places-set : (es : List End) (q u v : ℕ) → in_order different (end_vertices es) ≡ true → slice_get es q ≡ Some (plain u) →
    end_vertices (set es q (plain v)) ≡ end_vertices (move_end u v es)
places-set es q u v once h =
    sym (places-same (set es q (plain v)) q (plain v) (marked v) (slice_get-set es q (plain u) (plain v) h) refl)
    ∙ ap end_vertices (set-set es q (plain v) (marked v) ∙ set-move_end es q (plain u) v once h)

planes-inserted : (new : ℕ) (vs : List Vertex) → member new (ids vs) ≡ false → ((u : ℕ) → (kind_of vs u).plane ≡ XY) →
    (u : ℕ) → (kind_of (insert_vertex (spider_of_phase_zero new) vs) u).plane ≡ XY
planes-inserted new vs fresh planes u =
    by_equal u new
    (λ t e. ap (λ p. (kind_of (insert_vertex (spider_of_phase_zero new) vs) p).plane) e ∙ ap (λ (k : Kind). k.plane) (kind_of-insert (spider_of_phase_zero new) vs fresh))
    (λ f n. ap (λ (k : Kind). k.plane) (kind_of-insert_other u (spider_of_phase_zero new) vs n) ∙ planes u)

pub as_many : {a b : ℕ} → a ≡ b → a ≡ b + 0
as_many e = omega arith

-- ---- H
-- the ids after a new one
pub numbered_more : (n : ℕ) (vs : List Vertex) → n ≡ length vs → AreNumbered vs → AreNumbered (insert_vertex (spider_of_phase_zero n) vs)
numbered_more n vs e numbered u =
    member-insert u (spider_of_phase_zero n) vs ∙ ap₂ (λ m b. eqb u m || b) e (numbered u) ∙ one_more u (length vs)
    ∙ ap (ltb u) (sym (length-insert (spider_of_phase_zero n) vs))
  where
    one_more : (u k : ℕ) → (eqb u k || ltb u k) ≡ ltb u (k + 1)
    one_more u k = by_equal u k (λ t e. rw t (sym (lt-ltb u (k + 1) (omega arith)))) (λ f n. rw f (ltb_from_iff (λ t. omega (arith, ltb-true u k t), λ l. lt-ltb u k (omega (arith, n)))))

pub least_is : (g : Graph) → WellFormed g → AreNumbered g.vertices → least_free (ids g.vertices) ≡ length g.vertices
least_is g w numbered =
    sym (least_free-unique (ids g.vertices) (length g.vertices) w.vertices_rising
    (numbered (length g.vertices) ∙ le-ltb (length g.vertices) (length g.vertices) (omega arith)) (λ q below. numbered q ∙ lt-ltb q (length g.vertices) below))

abbrev pub is_new_output : (s : Graph) (q : ℕ) (t : Graph) → WellFormed s → (c : IsSpiderPeel t q s) → IsNewOutput s c.next t
is_new_output s q t w c = record {
  new = c.spider;
  fresh = c.fresh;
  has_output = member-places s.outputs q (plain c.next) c.output;
  vertices = c.vertices;
  edges = c.edges;
  inputs = ap end_vertices c.inputs;
  outputs = ap end_vertices c.outputs ∙ places-set s.outputs q c.next c.spider w.outputs.one_each c.output;
}

spider_ready : (s : GraphSoFar) (q : ℕ) (t : GraphSoFar) → IsReady s → IsSpiderStep s q t → IsReady t
spider_ready s q t r c = record {
  well_formed = spider_formed t.graph q s.graph r.well_formed c.peel;
  numbered = subst AreNumbered (sym c.peel.vertices) (numbered_more c.peel.spider s.graph.vertices c.id r.numbered);
  planes = λ u. ap (λ vs. (kind_of vs u).plane) c.peel.vertices ∙ planes-inserted c.peel.spider s.graph.vertices c.peel.fresh r.planes u;
  flow = flow-same_sets t.graph _ _ (record { order = sym c.table.order; members = λ v w. sym (c.table.members v w) })
      (new_output_flow s.graph c.peel.next t.graph s.table r.well_formed (is_new_output s.graph q t.graph r.well_formed c.peel) r.flow);
  plain = ap are_plain c.peel.outputs ∙ plain-set s.graph.outputs q c.peel.spider r.plain;
}

-- the old spider was the last one, and the new one has the next id
spider_table : (s : GraphSoFar) (q : ℕ) (t : GraphSoFar) → IsSpiderStep s q t → SameSets t.table (split_output_table (last_spider s.graph q) (length s.graph.vertices) s.table)
spider_table s q t c =
    subst (λ u. SameSets t.table (split_output_table u (length s.graph.vertices) s.table)) (sym (last_spider_is s.graph.outputs q c.peel.next c.peel.output))
    (subst (λ new. SameSets t.table (split_output_table c.peel.next new s.table)) c.id c.table)

-- no spider is left
same_table : (s t : GraphSoFar) → t.table ≡ s.table → SameSets t.table (s.table ++ [])
same_table s t e = same_of_equal (e ∙ sym (append-nil s.table))

spider_comes : (s : GraphSoFar) (q : ℕ) (t : GraphSoFar) → IsReady s → IsSpiderStep s q t → Comes s (H q ∷ []) t
spider_comes s q t r c =
    let ready : IsReady t = spider_ready s q t r c in
    record {
      ready = ready;
      graph = spider_is s.graph q t.graph ready.well_formed c.peel ∙ ap (λ v. with_spider v q s.graph) c.id;
      table = spider_table s q t c;
      map = spider_peels t.graph q s.graph r.well_formed c.peel ready.well_formed;
      spiders = ap length c.peel.vertices ∙ length-insert (spider_of_phase_zero c.peel.spider) s.graph.vertices;
      odd = le_of_eq (as_many (spider_odd t.graph q s.graph c.peel));
      inputs = c.peel.inputs;
      outputs = ap length c.peel.outputs ∙ length-set s.graph.outputs q (plain c.peel.spider);
    }

-- ---- Phase
phase_comes : (s : GraphSoFar) (q k : ℕ) (t : GraphSoFar) → IsReady s → IsPhaseStep s q k t → Comes s (Phase q k ∷ []) t
phase_comes s q k t r c = record {
  ready = record {
    well_formed = formed;
    numbered = λ u. ap (member u) same_ids ∙ r.numbered u ∙ ap (ltb u) (sym same_length);
    planes = λ u. same_planes u ∙ r.planes u;
    flow = subst (IsFlow t.graph) (sym c.table) (phases_unseen s.graph t.graph s.table (sym same_ids) (λ u. sym (same_planes u)) (sym c.peel.edges) (ap end_vertices (sym c.peel.inputs)) (ap end_vertices (sym c.peel.outputs)) r.flow);
    plain = ap are_plain c.peel.outputs ∙ r.plain;
  };
  graph = phase_is s.graph q k t.graph c.peel;
  table = same_table s t c.table;
  map = phase_peels t.graph q k s.graph formed r.well_formed c.peel;
  spiders = as_many same_length;
  odd = phase_odd t.graph q k s.graph r.well_formed c.peel;
  inputs = c.peel.inputs;
  outputs = ap length c.peel.outputs;
}
  where
    formed : WellFormed t.graph
    formed = phase_formed t.graph q k s.graph r.well_formed c.peel

    same_ids : ids t.graph.vertices ≡ ids s.graph.vertices
    same_ids = ap ids c.peel.vertices ∙ ids-with_kinds (fuse_kind c.peel.vertex k) s.graph.vertices

    same_length : length t.graph.vertices ≡ length s.graph.vertices
    same_length = ap length c.peel.vertices ∙ length-with_kinds (fuse_kind c.peel.vertex k) s.graph.vertices

    same_planes : (u : ℕ) → plane_of t.graph u ≡ plane_of s.graph u
    same_planes u = ap (λ vs. (kind_of vs u).plane) c.peel.vertices ∙ planes-fused c.peel.vertex k s.graph.vertices u

-- ---- Cz
is_toggled : (s : Graph) (p q : ℕ) (t : Graph) → WellFormed s → WellFormed t → (c : IsEdgePeel t p q s) →
    Alike (toggled (seen s) c.first c.second) (seen t)
is_toggled s p q t ws wt c = record {
  ids = λ v. ap (λ vs. member v (ids vs)) (sym c.vertices);
  adjacent = λ v w _ _. by_equal v w
      (λ _ e. rw e (ap₂ xor (no_loop s w ws) (is_pair-self c.first c.second c.different w) ∙ sym (no_loop t w wt)))
      (λ _ n. sym (c.edges v w n));
  plane = λ v _. ap (λ vs. (kind_of vs v).plane) (sym c.vertices);
  input = λ v _. ap (λ es. member v (end_vertices es)) (sym c.frame.inputs);
  output = λ v _. ap (λ es. member v (end_vertices es)) (sym c.frame.outputs);
}

toggle_comes : (s : GraphSoFar) (p q : ℕ) (t : GraphSoFar) → IsReady s → IsToggleStep s p q t → Comes s (Cz p q ∷ []) t
toggle_comes s p q t r c = record {
  ready = record {
    well_formed = formed;
    numbered = subst AreNumbered (sym c.peel.vertices) r.numbered;
    planes = λ u. ap (λ vs. (kind_of vs u).plane) c.peel.vertices ∙ r.planes u;
    flow = subst (IsFlow t.graph) (sym c.table)
        (toggled_flow s.graph c.peel.first c.peel.second t.graph s.table r.well_formed formed (is_toggled s.graph p q t.graph r.well_formed formed c.peel)
        (at_output p c.peel.first c.peel.output) (at_output q c.peel.second c.peel.output_too) r.flow);
    plain = ap are_plain c.peel.frame.outputs ∙ r.plain;
  };
  graph = toggle_is s.graph p q t.graph formed c.peel;
  table = same_table s t c.table;
  map = edge_peels t.graph p q s.graph formed r.well_formed c.peel;
  spiders = as_many (ap length c.peel.vertices);
  odd = le_of_eq (as_many (same_vertices t.graph s.graph c.peel.vertices));
  inputs = c.peel.frame.inputs;
  outputs = ap length c.peel.frame.outputs;
}
  where
    formed : WellFormed t.graph
    formed = edge_formed t.graph p q s.graph r.well_formed c.peel

    at_output : (i u : ℕ) → slice_get t.graph.outputs i ≡ Some (plain u) → member u (end_vertices s.graph.outputs) ≡ true
    at_output i u h = ap (λ es. member u (end_vertices es)) (sym c.peel.frame.outputs) ∙ member-places t.graph.outputs i (plain u) h

pub gate_comes : (s : GraphSoFar) (gate : Gate) (t : GraphSoFar) → IsReady s → IsGateStep s gate t → Comes s (gate ∷ []) t
gate_comes s (H q) t = spider_comes s q t
gate_comes s (Phase q k) t = phase_comes s q k t
gate_comes s (Cz p q) t = toggle_comes s p q t
gate_comes s (Cx control target) t = λ r c. absurd c
gate_comes s (Not q) t = λ r c. absurd c
