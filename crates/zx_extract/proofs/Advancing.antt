-- The last vertex takes the place of an output.
use Rattle.std.proofs.Common.{◌≡◌, ◌≢◌, refl, sym, ◌∙◌, ap, ap₂, subst, ℕ, ◌+◌, ◌≤◌, Bool, true, false, not, ◌&&◌, ◌||◌, eqb, eqb-true, eq-eqb, ne_eqb, List, [], ◌∷◌, filter, length, set, true≢false, arith}
use Rattle.std.specs.Prelude.{slice_get}
use Rattle.std.proofs.Math.ListN.{length-set}
use Rattle.std.proofs.lemmas.List.Elements.{All-cons, All-nil}
use Rattle.zx_model.specs.Bits.{member, one_if}
use Rattle.zx_calculus.specs.Graph.{XY, Kind, Vertex, ids, kind_of, plane_of, joined, end_vertices, is_XY, different, without, WellFormed, plain}
use Rattle.zx_calculus.specs.Counts.{not_XY, XY_without_output}
use Rattle.zx_calculus.proofs.Booleans.{and-false, and-true}
use Rattle.zx_calculus.proofs.Ids.{eqb-self, member-removed_other}
use Rattle.zx_calculus.proofs.Forms.{ids-without}
use Rattle.zx_calculus.proofs.Vertices.{kind_of-without}
use Rattle.zx_calculus.proofs.Splitting.{distinct, distinct_without}
use Rattle.zx_calculus.proofs.CountLemmas.{count, count_front, count_apart}
use Rattle.gflow_laws.specs.Seen.{seen}
use Rattle.gflow_laws.specs.Flow.{IsFlow}
use Rattle.gflow_laws.specs.Outputs.{advanced, advanced_table, IsLeafOutput}
use Rattle.gflow_laws.specs.Correcting.{Alike}
use Rattle.gflow_laws.proofs.Tables.{order_of-with_sets}
use Rattle.gflow_laws.proofs.Seeing.{flow-same_sets}
use Rattle.gflow_laws.proofs.LastLaws.{filter-removed, advanced_flow}
use Rattle.zx_gates.specs.Circuit.{IsOnQubits, most_qubits}
use Rattle.zx_gates.specs.declared.gate.Gate.TheVariants.{H}
use Rattle.circuit_laws.specs.Peeling.{HasPlainOutput, are_plain}
use Rattle.circuit_laws.proofs.Places.{member-places, output_there, output_plane, slice_get-set_other, plain-set}
use Rattle.circuit_laws.proofs.Taken.{advanced_formed, advanced_gates, advanced_odd}
use Rattle.zx_extract.specs.Internal.Leading.{Remainder, Leads, IsReady, IsFrontier, IsSettled}
use Rattle.zx_extract.specs.Internal.Steps.{IsAdvanced, HasOneOutput}
use Rattle.zx_extract.proofs.Places.{one_output, member-places_set}
use Rattle.zx_extract.proofs.Lasts.{one_shorter}
use Rattle.zx_extract.proofs.Rows.{same_sets_back}
use Rattle.zx_extract.proofs.WithoutVertex.{stays, ids_left, phase_left, plane_left, planes_left}
use Rattle.zx_extract.proofs.LastVertex.{last_live, last_no_output, only_neighbour, link_no_input}
use Rattle.std.proofs.lemmas.Option.{slice_get_within}

module _ {s t : Remainder} {v q : ℕ} (r : IsReady s) (f : IsFrontier s.graph) (plane : plane_of s.graph v ≡ XY)
    (one : HasOneOutput s q) (a : IsAdvanced s v q t) where
  abbrev u : ℕ
  u = a.advance.spider

  leaf : (w : ℕ) → joined s.graph.edges u w ≡ eqb w v
  leaf = only_neighbour r f a.last q one a.advance.output plane

  next_is : a.advance.next ≡ v
  next_is = eqb-true a.advance.next v (sym (leaf a.advance.next) ∙ a.advance.only_neighbour a.advance.next
      ∙ eqb-self a.advance.next)

  no_input : member u (end_vertices s.graph.inputs) ≡ false
  no_input = link_no_input r f a.last q one a.advance.output

  formed : WellFormed t.graph
  formed = advanced_formed s.graph q t.graph r.given.well_formed a.advance no_input (ap (plane_of s.graph) next_is
      ∙ plane)
      (ap (λ x. member x (end_vertices s.graph.outputs)) next_is ∙ last_no_output r f a.last)

  outputs_are : t.graph.outputs ≡ set s.graph.outputs q (plain v)
  outputs_are = a.advance.outputs ∙ ap (λ x. set s.graph.outputs q (plain x)) next_is

  beside_u : (x : ℕ) → member x (filter (different u) (ids s.graph.vertices)) ≡ true → x ≢ u
  beside_u = stays s.graph t.graph u a.advance.vertices

  alike : Alike (advanced (seen s.graph) u a.last.entry.vertex) (seen t.graph)
  alike = record {
    ids = ids_left s.graph t.graph u a.advance.vertices;
    adjacent = λ x y in_x in_y. sym (a.advance.edges x y (beside_u x in_x) (beside_u y in_y));
    plane = plane_left s.graph t.graph u a.advance.vertices;
    input = λ x _. ap (λ es. member x (end_vertices es)) (sym a.advance.inputs);
    output = λ x _. ap (λ y. eqb x y || (member x (end_vertices s.graph.outputs) && different u x)) a.last.vertex
        ∙ sym (ap (λ es. member x (end_vertices es)) outputs_are
        ∙ member-places_set s.graph.outputs q u v x r.given.well_formed.outputs.one_each a.advance.output);
  }

  leaf_output : IsLeafOutput (seen s.graph) u a.last.entry.vertex
  leaf_output = record {
    there = output_there s.graph q (plain u) r.given.well_formed a.advance.output;
    output = member-places s.graph.outputs q (plain u) a.advance.output;
    only = λ w _. leaf w ∙ ap (eqb w) (sym a.last.vertex);
  }

  pub advanced_ready : IsReady t
  advanced_ready = record {
    given = record {
      well_formed = formed;
      flow = flow-same_sets t.graph (advanced_table u a.last.before) t.table (same_sets_back a.table)
          (advanced_flow s.graph a.last.before a.last.entry u t.graph r.given.well_formed formed alike leaf_output
          (subst (IsFlow s.graph) a.last.split r.given.flow));
      planes = planes_left s.graph t.graph u a.advance.vertices r.given.planes;
      few = subst (λ n. n ≤ most_qubits) (sym (ap length outputs_are ∙ length-set s.graph.outputs q (plain v)))
          r.given.few;
    };
    plain = ap are_plain outputs_are ∙ plain-set s.graph.outputs q v r.plain;
  }

  -- ---- how many are left

  at_u : is_XY (plane_of s.graph u) ≡ true
  at_u = ap is_XY (output_plane s.graph q (plain u) r.given.well_formed a.advance.output)

  v_stays : v ≢ u
  v_stays e = true≢false (sym (member-places s.graph.outputs q (plain u) a.advance.output)
      ∙ ap (λ x. member x (end_vertices s.graph.outputs)) (sym e) ∙ last_no_output r f a.last)

  v_left : member v (ids (without u s.graph.vertices)) ≡ true
  v_left = ap (member v) (ids-without u s.graph.vertices) ∙ member-removed_other v u (ids s.graph.vertices) v_stays
      ∙ last_live r f a.last

  others_left : not_XY t.graph ≡ not_XY s.graph
  others_left = ap (λ (vs : List Vertex). count (λ p k. not (is_XY k.plane)) vs) a.advance.vertices
      ∙ sym (count_front (λ p k. not (is_XY k.plane)) u s.graph.vertices (distinct s.graph r.given.well_formed)
      (output_there s.graph q (plain u) r.given.well_formed a.advance.output)
      ∙ ap (λ b. one_if (not b) + count (λ p k. not (is_XY k.plane)) (without u s.graph.vertices)) at_u ∙ none_more _)
    where
      none_more : (n : ℕ) → 0 + n ≡ n
      none_more n = omega arith

  -- whether a vertex counts before and after
  abbrev before : ℕ → Kind → Bool
  before p k = is_XY k.plane && not (member p (end_vertices s.graph.outputs))

  abbrev after : ℕ → Kind → Bool
  after p k = is_XY k.plane && not (member p (end_vertices t.graph.outputs))

  spiders_left : XY_without_output t.graph + 1 ≡ XY_without_output s.graph
  spiders_left =
      let front : count before s.graph.vertices ≡ one_if (before u (kind_of s.graph.vertices u)) + count before
      (without u s.graph.vertices) =
      count_front before u s.graph.vertices (distinct s.graph r.given.well_formed)
      (output_there s.graph q (plain u) r.given.well_formed a.advance.output) in
      let off_u : one_if (before u (kind_of s.graph.vertices u)) ≡ 0 =
      ap₂ (λ b c. one_if (b && not c)) at_u (member-places s.graph.outputs q (plain u) a.advance.output) in
      let apart : count after (without u s.graph.vertices) + one_if
      (before v (kind_of (without u s.graph.vertices) v)) ≡ count before (without u s.graph.vertices) + one_if
      (after v (kind_of (without u s.graph.vertices) v)) =
      count_apart after before v (without u s.graph.vertices)
      (distinct_without s.graph u r.given.well_formed) v_left same in
      let at_v : one_if (before v (kind_of (without u s.graph.vertices) v)) ≡ 1 =
      ap₂ (λ b c. one_if (b && not c)) (ap (λ (k : Kind). is_XY k.plane) (kind_of-without v u s.graph.vertices v_stays) ∙ ap is_XY plane)
      (last_no_output r f a.last) in
      let off_v : one_if (after v (kind_of (without u s.graph.vertices) v)) ≡ 0 =
      ap (λ c. one_if (is_XY (kind_of (without u s.graph.vertices) v).plane && not c)) v_output
      ∙ ap one_if (and-false (is_XY (kind_of (without u s.graph.vertices) v).plane)) in
      let left : count after t.graph.vertices ≡ count after (without u s.graph.vertices) =
      ap (count after) a.advance.vertices in
      summed _ _ _ _ _ _ _ front off_u apart at_v off_v left
    where
      summed : (all rest u_counts new v_counts v_after left : ℕ) → all ≡ u_counts + rest → u_counts ≡ 0 →
          new + v_counts ≡ rest + v_after → v_counts ≡ 1 → v_after ≡ 0 → left ≡ new → left + 1 ≡ all
      summed all rest u_counts new v_counts v_after left a b c d e g = omega arith

      v_output : member v (end_vertices t.graph.outputs) ≡ true
      v_output = ap (λ es. member v (end_vertices es)) outputs_are
          ∙ member-places_set s.graph.outputs q u v v r.given.well_formed.outputs.one_each a.advance.output
          ∙ ap (λ b. b || (member v (end_vertices s.graph.outputs) && not (eqb u v))) (eqb-self v)

      same : (p : ℕ) → member p (ids (without u s.graph.vertices)) ≡ true → p ≢ v →
          after p (kind_of (without u s.graph.vertices) p) ≡ before p (kind_of (without u s.graph.vertices) p)
      same p within n = ap (λ c. is_XY (kind_of (without u s.graph.vertices) p).plane && not c)
          (ap (λ es. member p (end_vertices es)) outputs_are
          ∙ member-places_set s.graph.outputs q u v p r.given.well_formed.outputs.one_each a.advance.output
          ∙ ap₂ (λ b c. b || (member p (end_vertices s.graph.outputs) && not c)) (ne_eqb p v n)
          (ne_eqb u p (λ e. beside_u p (in_rest p within) (sym e)))
          ∙ and-true (member p (end_vertices s.graph.outputs)))
        where
          in_rest : (p : ℕ) → member p (ids (without u s.graph.vertices)) ≡ true →
              member p (filter (different u) (ids s.graph.vertices)) ≡ true
          in_rest p within = ap (member p) (filter-removed u (ids s.graph.vertices)
              ∙ sym (ids-without u s.graph.vertices)) ∙ within

  pub advanced_leads : Leads s 1 1 0 t
  advanced_leads = record {
    taken = H q ∷ [];
    gates = a.gates;
    doublings = 0;
    map = advanced_gates s.graph q t.graph r.given.well_formed formed a.advance;
    few_doublings = omega arith;
    odd = omega (arith, advanced_odd s.graph q t.graph r.given.well_formed a.advance);
    on_qubits = All-cons (IsOnQubits (length s.graph.outputs)) (H q) []
        (slice_get_within s.graph.outputs q (plain u) a.advance.output) (All-nil (IsOnQubits (length s.graph.outputs)));
    few = omega arith;
    XY = spiders_left;
    others = omega (arith, others_left);
    inputs = a.advance.inputs;
    outputs = ap length outputs_are ∙ length-set s.graph.outputs q (plain v);
  }

  -- other outputs are where they were
  pub at_other : (p w : ℕ) → p ≢ q → HasPlainOutput t.graph p w → HasPlainOutput s.graph p w
  at_other p w n o = sym (ap (λ es. slice_get es p) outputs_are ∙ slice_get-set_other s.graph.outputs q p (plain v) n)
      ∙ o

  off_u : (p w : ℕ) → p ≢ q → HasPlainOutput s.graph p w → w ≢ u
  off_u p w n o e = n (one_output s.graph p q u r.given.well_formed
      (subst (HasPlainOutput s.graph p) e o) a.advance.output)

  pub advanced_settled : IsSettled t.graph (λ p. not (eqb p q))
  advanced_settled = record {
    phase = λ p w picked o.
        let other : p ≢ q = picks p picked in
        let there : HasPlainOutput s.graph p w = at_other p w other o in
        phase_left s.graph t.graph u a.advance.vertices w (off_u p w other there) ∙ f.phase p w refl there;
    apart = λ p p' picked picked' w w' o o'.
        let there : HasPlainOutput s.graph p w = at_other p w (picks p picked) o in
        let there' : HasPlainOutput s.graph p' w' = at_other p' w' (picks p' picked') o' in
        a.advance.edges w w' (off_u p w (picks p picked) there) (off_u p' w' (picks p' picked') there')
        ∙ f.apart p p' refl refl w w' there there';
  }
    where
      picks : (p : ℕ) → not (eqb p q) ≡ true → p ≢ q
      picks p t e = true≢false (sym t ∙ ap not (eq-eqb p q e))

  pub advanced_shorter : length t.table + 1 ≡ length s.table
  advanced_shorter = one_shorter t.table a.last.before s.table a.last.entry
      (a.table.order ∙ order_of-with_sets (λ w members. filter (different u) members) a.last.before) a.last.split
