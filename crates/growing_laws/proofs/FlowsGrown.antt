-- Flows of graphs with a gate behind their outputs.
use Rattle.std.proofs.Common.{◌≡◌, refl, sym, ◌∙◌, ap, subst, ℕ, suc, ◌<◌, ◌≤◌, Bool, true, false, cond, ◌||◌, eqb, arith, List, [], ◌∷◌, ◌++◌, length}
use Rattle.zx_model.specs.Bits.{member}
use Rattle.zx_calculus.specs.Graph.{Vertex, Graph, ids, kind_of, end_vertices, with_kinds, WellFormed}
use Rattle.zx_calculus.specs.Edits.{IsToggle}
use Rattle.zx_calculus.specs.Gadgets.{fuse_kind}
use Rattle.zx_calculus.proofs.Booleans.{or-false}
use Rattle.zx_calculus.proofs.EditPrograms.{toggled as toggled_graph, toggled_is_toggle}
use Rattle.zx_calculus.proofs.Ids.{by_equal, member-append}
use Rattle.zx_calculus.proofs.Vertices.{ids-with_kinds}
use Rattle.gflow_laws.specs.Seen.{seen}
use Rattle.gflow_laws.specs.Flow.{Correction, IsFlow}
use Rattle.gflow_laws.specs.Splits.{split_output_table}
use Rattle.gflow_laws.specs.Outputs.{toggled}
use Rattle.gflow_laws.specs.Correcting.{Alike}
use Rattle.gflow_laws.proofs.Flows.{Flows-from}
use Rattle.gflow_laws.proofs.OutputLaws.{toggled_flow}
use Rattle.gflow_laws.proofs.Seeing.{phases_unseen}
use Rattle.gflow_laws.proofs.Splits.{new_output_flow}
use Rattle.gflow_laws.proofs.Tables.{order_of-append, unlisted}
use Rattle.zx_gates.specs.Circuit.{IsOnQubits}
use Rattle.zx_gates.specs.declared.gate.Gate.TheVariants.{H, Phase, Cz}
use Rattle.circuit_laws.specs.Peeling.{IsSpiderPeel, are_plain}
use Rattle.circuit_graph.proofs.Gates.{is_new_output}
use Rattle.move_laws.specs.Orders.{HasFlowAlong}
use Rattle.move_laws.specs.Ranks.{HasFlowBy, ranked}
use Rattle.move_laws.proofs.Ranks.{ranked-self, ranked_other, rises-ranked, rises-append}
use Rattle.growing_laws.specs.Growing.{placed}
use Rattle.growing_laws.proofs.Parts.{spot, spot_there, plane_fused}
use Rattle.growing_laws.proofs.Placing.{spot_live, spots_differ}
use Rattle.growing_laws.proofs.Peeled.{spider_peel, spider_next, placed_formed}

-- ---- a vertex that comes last
spider_along : (g : Graph) (q : ℕ) (h : Graph) (order : List ℕ) → WellFormed g → (c : IsSpiderPeel h q g) → HasFlowAlong g order → HasFlowAlong h (order ++ c.next ∷ [])
spider_along g q h order w c f = record {
  table = split_output_table c.next c.spider f.table;
  flow = new_output_flow g c.next h f.table w (is_new_output g q h w c) f.flow;
  along = order_of-append f.table (record { vertex = c.next; members = c.spider ∷ [] }) ∙ ap (λ vs. vs ++ c.next ∷ []) f.along;
}

-- where b, an output, comes last
last_by : (g h : Graph) (rank : ℕ → ℕ) (low high b : ℕ) → low ≤ high → member b (end_vertices g.outputs) ≡ true → (f : HasFlowBy g rank low high) →
    HasFlowAlong h (f.order ++ b ∷ []) → HasFlowBy h (ranked b high rank) low (suc high)
last_by g h rank low high b some at_end f along = record {
  order = f.order ++ b ∷ [];
  flow = along;
  rises = rises-append (ranked b high rank) f.order b
      (λ w there. let at_w : ranked b high rank w ≡ rank w = ranked_other b high rank f.order w out there in
      rw (ranked-self b high rank, at_w) (f.below_high w there))
      (rises-ranked b high rank f.order f.order out (λ w there. there) f.rises);
  from_low = λ v there. by_equal v b (λ t e. rw t some) (λ n ne. rw n (f.from_low v (before v n there)));
  below_high = λ v there. by_equal v b
      (λ t e. rw t (omega arith))
      (λ n ne. let bound : rank v < high = f.below_high v (before v n there) in rw n (omega arith));
}
  where
    out : member b f.order ≡ false
    out = ap (member b) (sym f.flow.along) ∙ unlisted (seen g) f.flow.table (Flows-from (seen g) f.flow.table f.flow.flow) b at_end

    before : (v : ℕ) → eqb v b ≡ false → member v (f.order ++ b ∷ []) ≡ true → member v f.order ≡ true
    before v n there = sym (or-false (member v f.order)) ∙ sym (ap (λ t. member v f.order || (t || false)) n) ∙ sym (member-append v f.order (b ∷ [])) ∙ there

-- ---- an added phase changes no plane
planes-fused : (u k : ℕ) (vs : List Vertex) (p : ℕ) → (kind_of vs p).plane ≡ (kind_of (with_kinds (fuse_kind u k) vs) p).plane
planes-fused u k [] p = refl
planes-fused u k (v ∷ vs) p = at (eqb p v.id) (planes-fused u k vs p)
  where
    at : (b : Bool) → (kind_of vs p).plane ≡ (kind_of (with_kinds (fuse_kind u k) vs) p).plane →
        (cond b v.kind (kind_of vs p)).plane ≡ (cond b (fuse_kind u k v.id v.kind) (kind_of (with_kinds (fuse_kind u k) vs) p)).plane
    at true again = sym (plane_fused (eqb v.id u) k v.kind)
    at false again = again

same_order : (g h : Graph) (rank : ℕ → ℕ) (low high : ℕ) → ((table : List Correction) → IsFlow g table → IsFlow h table) →
    HasFlowBy g rank low high → HasFlowBy h rank low high
same_order g h rank low high kept f = record {
  order = f.order;
  flow = record { table = f.flow.table; flow = kept f.flow.table f.flow.flow; along = f.flow.along };
  rises = f.rises;
  from_low = f.from_low;
  below_high = f.below_high;
}

module _ (new : ℕ) (g : Graph) (w : WellFormed g) (fresh : member new (ids g.vertices) ≡ false) (all_plain : are_plain g.outputs ≡ true)
    (rank : ℕ → ℕ) (low high : ℕ) (f : HasFlowBy g rank low high) where
  pub spider_ranked : (q : ℕ) → q < length g.outputs → low ≤ high → HasFlowBy (placed new g (H q)) (ranked (spot g.outputs q) high rank) low (suc high)
  spider_ranked q lt some =
      last_by g (placed new g (H q)) rank low high (spot g.outputs q) some (spot_there g.outputs q lt) f
      (subst (λ b. HasFlowAlong (placed new g (H q)) (f.order ++ b ∷ [])) (spider_next new g w fresh all_plain q lt)
      (spider_along g q (placed new g (H q)) f.order w (spider_peel new g w fresh all_plain q lt) f.flow))

  pub phase_ranked : (q k : ℕ) → HasFlowBy (placed new g (Phase q k)) rank low high
  phase_ranked q k =
      same_order g (placed new g (Phase q k)) rank low high
      (λ table flow. phases_unseen g (placed new g (Phase q k)) table (sym (ids-with_kinds (fuse_kind (spot g.outputs q) k) g.vertices))
      (planes-fused (spot g.outputs q) k g.vertices) refl refl refl flow) f

  pub edge_ranked : (p q : ℕ) → IsOnQubits (length g.outputs) (Cz p q) → HasFlowBy (placed new g (Cz p q)) rank low high
  edge_ranked p q on =
      let c : IsToggle g (spot g.outputs p) (spot g.outputs q) (toggled_graph g (spot g.outputs p) (spot g.outputs q)) =
      toggled_is_toggle g (spot g.outputs p) (spot g.outputs q) w (spot_live g w p on.0) (spot_live g w q on.1) (spots_differ g w p q on.0 on.1 on.2) in
      let alike : Alike (toggled (seen g) (spot g.outputs p) (spot g.outputs q)) (seen (placed new g (Cz p q))) = record {
        ids = λ v. refl;
        adjacent = λ v r _ _. sym (c.edges v r);
        plane = λ v _. refl;
        input = λ v _. refl;
        output = λ v _. refl;
      } in
      same_order g (placed new g (Cz p q)) rank low high
      (λ table flow. toggled_flow g (spot g.outputs p) (spot g.outputs q) (placed new g (Cz p q)) table w (placed_formed new g w fresh all_plain (Cz p q) on) alike
      (spot_there g.outputs p on.0) (spot_there g.outputs q on.1) flow) f
