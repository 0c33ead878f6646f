-- Rows that are added to the row of an output.
use Rattle.std.proofs.Common.{◌≡◌, ◌≢◌, refl, sym, ◌∙◌, ap, ap₂, subst, ℕ, ◌+◌, ◌≤◌, ◌<◌, Bool, true, false, not, ◌&&◌, eqb, ne_eqb, List, [], ◌∷◌, length, arith}
use Rattle.std.specs.Prelude.{slice_get}
use Rattle.std.proofs.lemmas.List.Elements.{All-cons, All-nil}
use Rattle.std.proofs.lemmas.Bool.Decides.{nat_tests}
use Rattle.zx_model.specs.Bits.{xor, member}
use Rattle.zx_calculus.specs.Graph.{ids, kind_of, joined, end_vertices, WellFormed, Distinct, plain}
use Rattle.zx_calculus.proofs.Booleans.{xor-same, and_comm}
use Rattle.zx_calculus.proofs.Ids.{by_equal, eqb-self}
use Rattle.zx_calculus.proofs.Splitting.{no_loop}
use Rattle.gflow_laws.specs.Seen.{seen}
use Rattle.gflow_laws.specs.Flow.{Correction, order_of, SameSets}
use Rattle.gflow_laws.specs.Outputs.{row_added, with_row_added, MayAddRow, row_added_table, row_added_set}
use Rattle.gflow_laws.specs.Correcting.{Alike}
use Rattle.gflow_laws.proofs.Flows.{Flows-from}
use Rattle.gflow_laws.proofs.Tables.{order_of-with_sets}
use Rattle.gflow_laws.proofs.Seeing.{flow-same_sets}
use Rattle.gflow_laws.proofs.OutputLaws.{row_added_flow}
use Rattle.zx_gates.specs.Circuit.{IsOnQubits, most_qubits}
use Rattle.zx_gates.specs.declared.gate.Gate.TheVariants.{Cx}
use Rattle.circuit_laws.specs.Peeling.{HasPlainOutput, are_plain}
use Rattle.circuit_laws.proofs.Places.{member-places, output_there}
use Rattle.circuit_laws.proofs.Keeping.{row_formed_back}
use Rattle.circuit_laws.proofs.Counts.{same_vertices}
use Rattle.circuit_laws.proofs.Rows.{row_peels}
use Rattle.circuit_laws.proofs.GateLists.{row_on}
use Rattle.zx_extract.specs.Internal.Lists.{last_set, others_below}
use Rattle.zx_extract.specs.Internal.Leading.{Remainder, Leads, IsReady, IsFrontier}
use Rattle.zx_extract.specs.Internal.Steps.{IsRowAdded, HasLast, IsPicked, AddsRows, IsGathered}
use Rattle.zx_extract.proofs.Leads.{leads_same, leads_nothing, leads_then, leads_within}
use Rattle.zx_extract.proofs.Counting.{as_many_XY, as_many_others}
use Rattle.zx_extract.proofs.Places.{one_vertex, one_output}
use Rattle.zx_extract.proofs.Lasts.{last_set-row_added, last_set-same, keeps_last}
use Rattle.std.proofs.lemmas.Option.{slice_get_within}

-- tables with the same sets, the other way round
pub same_sets_back : {table other : List Correction} → SameSets table other → SameSets other table
same_sets_back same = record { order = sym same.order; members = λ v w. sym (same.members v w) }

module _ (s : Remainder) (c t : ℕ) (h : Remainder) (r : IsReady s) (f : IsFrontier s.graph) (a : IsRowAdded s c t h) where
  at_output : (q u : ℕ) → HasPlainOutput s.graph q u → member u (end_vertices s.graph.outputs) ≡ true
  at_output q u o = member-places s.graph.outputs q (plain u) o

  formed : WellFormed h.graph
  formed = row_formed_back s.graph c t h.graph r.given.well_formed a.row

  may : MayAddRow (seen s.graph) a.row.added a.row.to
  may = record {
    there = output_there s.graph c (plain a.row.added) r.given.well_formed a.row.output;
    there_too = output_there s.graph t (plain a.row.to) r.given.well_formed a.row.output_too;
    output = at_output c a.row.added a.row.output;
    output_too = at_output t a.row.to a.row.output_too;
    no_input = a.row.no_input;
    apart = a.row.different;
  }

  on_diagonal : (p : ℕ) → row_added (joined s.graph.edges) a.row.added a.row.to p p ≡ joined h.graph.edges p p
  on_diagonal p =
      ap₂ xor (no_loop s.graph p r.given.well_formed)
      (ap (xor (eqb a.row.to p && joined s.graph.edges a.row.added p))
      (and_comm (joined s.graph.edges a.row.added p) (eqb a.row.to p))
      ∙ xor-same (eqb a.row.to p && joined s.graph.edges a.row.added p))
      ∙ sym (no_loop h.graph p formed)

  pub edges_are : (p q : ℕ) → joined h.graph.edges p q ≡ row_added (joined s.graph.edges) a.row.added a.row.to p q
  edges_are p q = by_equal p q
      (λ _ e. ap (joined h.graph.edges p) (sym e) ∙ sym (on_diagonal p)
      ∙ ap (row_added (joined s.graph.edges) a.row.added a.row.to p) e)
      (λ _ n. a.row.edges p q n)

  alike : Alike (with_row_added (seen s.graph) a.row.added a.row.to) (seen h.graph)
  alike = record {
    ids = λ v. ap (λ vs. member v (ids vs)) a.row.vertices;
    adjacent = λ p q _ _. sym (edges_are p q);
    plane = λ v _. ap (λ vs. (kind_of vs v).plane) a.row.vertices;
    input = λ v _. ap (λ es. member v (end_vertices es)) a.row.frame.inputs;
    output = λ v _. ap (λ es. member v (end_vertices es)) a.row.frame.outputs;
  }

  pub row_ready : IsReady h
  row_ready = record {
    given = record {
      well_formed = formed;
      flow = flow-same_sets h.graph (row_added_table a.row.added a.row.to s.table) h.table (same_sets_back a.table)
          (row_added_flow s.graph a.row.added a.row.to h.graph s.table r.given.well_formed formed may alike
          r.given.flow);
      planes = λ v live e. r.given.planes v (ap (λ vs. member v (ids vs)) a.row.vertices ∙ live)
          (ap (λ vs. (kind_of vs v).plane) a.row.vertices ∙ e);
      few = subst (λ es. length es ≤ most_qubits) a.row.frame.outputs r.given.few;
    };
    plain = ap are_plain (sym a.row.frame.outputs) ∙ r.plain;
  }

  pub row_leads : Leads s 1 0 0 h
  row_leads = leads_same s h 1 (Cx t c ∷ []) a.gates (row_peels s.graph c t h.graph r.given.well_formed formed a.row)
      (omega (arith, same_vertices h.graph s.graph (sym a.row.vertices)))
      (All-cons (IsOnQubits (length s.graph.outputs)) (Cx t c) [] (row_on s.graph c t h.graph a.row)
      (All-nil (IsOnQubits (length s.graph.outputs))))
      (omega arith) (as_many_XY s.graph h.graph (sym a.row.vertices) (ap end_vertices (sym a.row.frame.outputs)))
      (as_many_others s.graph h.graph (sym a.row.vertices)) (sym a.row.frame.inputs)

  back : (q u : ℕ) → HasPlainOutput h.graph q u → HasPlainOutput s.graph q u
  back q u o = ap (λ es. slice_get es q) a.row.frame.outputs ∙ o

  -- rows of outputs have no outputs in them
  pub row_frontier : IsFrontier h.graph
  row_frontier = record {
    phase = λ q u _ o. ap (λ vs. (kind_of vs u).phase) (sym a.row.vertices) ∙ f.phase q u refl (back q u o);
    apart = λ p q _ _ u v o i.
        edges_are u v
        ∙ ap₂ xor (f.apart p q refl refl u v (back p u o) (back q v i))
        (ap₂ (λ x y. xor (eqb a.row.to u && x) (y && eqb a.row.to v))
        (f.apart c q refl refl a.row.added v a.row.output (back q v i))
        (f.apart c p refl refl a.row.added u a.row.output (back p u o))
        ∙ neither (eqb a.row.to u));
  }
    where
      neither : (b : Bool) → xor (b && false) false ≡ false
      neither true = refl
      neither false = refl

  pub row_order : order_of h.table ≡ order_of s.table
  row_order = a.table.order ∙ order_of-with_sets (λ v members. row_added_set a.row.added a.row.to members) s.table

  pub row_last : (v : ℕ) → HasLast s.table v → (w : ℕ) →
      last_set h.table w ≡ xor (last_set s.table w) (last_set s.table a.row.to && eqb w a.row.added)
  row_last v last w =
      last_set-same (row_added_table a.row.added a.row.to s.table) h.table v a.table
      (keeps_last s.table (row_added_table a.row.added a.row.to s.table) v
      (order_of-with_sets (λ u members. row_added_set a.row.added a.row.to members) s.table) last)
      (subst Distinct (sym (order_of-with_sets (λ u members. row_added_set a.row.added a.row.to members) s.table))
      (Flows-from (seen s.graph) s.table r.given.flow).each_once) w
      ∙ last_set-row_added a.row.added a.row.to s.table w

-- ---- gathering
pub others_below-more : (q i : ℕ) → i ≢ q → others_below q i + 1 ≤ others_below q (i + 1)
others_below-more q i n = grind (arith, nat_tests)

pub adds_nothing : (s : Remainder) (k : ℕ) → IsReady s → IsFrontier s.graph → AddsRows s k s
adds_nothing s k r f = record {
  leads = leads_within s 0 0 0 k s (omega arith) (leads_nothing s);
  ready = r;
  frontier = f;
  order = refl;
  same = refl;
  ends = refl;
}

pub adds_row : (s : Remainder) (k l : ℕ) (t : Remainder) (c q : ℕ) (h : Remainder) → k + 1 ≤ l → AddsRows s k t → IsRowAdded t c q h →
    AddsRows s l h
adds_row s k l t c q h within b a = record {
  leads = leads_within s (k + 1) 0 0 l h within
      (leads_then s k 0 0 t 1 0 0 h b.leads (row_leads t c q h b.ready b.frontier a));
  ready = row_ready t c q h b.ready b.frontier a;
  frontier = row_frontier t c q h b.ready b.frontier a;
  order = row_order t c q h b.ready b.frontier a ∙ b.order;
  same = sym a.row.vertices ∙ b.same;
  ends = sym a.row.frame.outputs ∙ b.ends;
}

pub gathered_nothing : (s : Remainder) (q : ℕ) → IsReady s → IsFrontier s.graph → IsPicked s q → IsGathered s q 0 s
gathered_nothing s q r f picked = record {
  rows = adds_nothing s (others_below q 0) r f;
  itself = picked.there;
  gone = λ p u within. absurd (omega arith);
}

-- one more output, whose row was added
pub gathered_row : (s : Remainder) (q i v : ℕ) (t h : Remainder) → IsGathered s q i t → HasLast s.table v → i ≢ q → (u : ℕ) →
    HasPlainOutput t.graph i u → last_set t.table u ≡ true →
    IsRowAdded t i q h → IsGathered s q (i + 1) h
gathered_row s q i v t h g last n u o there a = record {
  rows = adds_row s (others_below q i) (others_below q (i + 1)) t i q h (others_below-more q i n) g.rows a;
  itself = λ w at_q. let here : HasPlainOutput t.graph q w = ap (λ es. slice_get es q) a.row.frame.outputs ∙ at_q in
      sets w ∙ ap₂ (λ b c. xor b (c && eqb w a.row.added)) (g.itself w here) to_there
      ∙ ap not (ne_eqb w a.row.added (λ e. a.row.different (sym e
      ∙ one_vertex t.graph q w a.row.to here a.row.output_too)));
  gone = λ p w within m at_p. let here : HasPlainOutput t.graph p w = ap (λ es. slice_get es p) a.row.frame.outputs ∙ at_p in
      sets w ∙ ap (λ c. xor (last_set t.table w) (c && eqb w a.row.added)) to_there ∙ by_equal p i
      (λ _ e. let same : w ≡ a.row.added = one_vertex t.graph i w a.row.added
      (subst (λ k. HasPlainOutput t.graph k w) e here) a.row.output in
      ap₂ xor (ap (last_set t.table) (same ∙ one_vertex t.graph i a.row.added u a.row.output o) ∙ there)
      (ap (λ x. eqb x a.row.added) same ∙ eqb-self a.row.added))
      (λ _ other. ap₂ xor (g.gone p w (omega arith) m here)
      (ne_eqb w a.row.added (λ same. other (one_output t.graph p i w g.rows.ready.given.well_formed here
      (subst (λ x. HasPlainOutput t.graph i x) (sym same) a.row.output)))));
}
  where
    sets : (w : ℕ) → last_set h.table w ≡ xor (last_set t.table w) (last_set t.table a.row.to && eqb w a.row.added)
    sets = row_last t i q h g.rows.ready g.rows.frontier a v (keeps_last s.table t.table v g.rows.order last)

    to_there : last_set t.table a.row.to ≡ true
    to_there = g.itself a.row.to a.row.output_too

-- what is left when all outputs were seen
pub gathered_all : (s : Remainder) (q : ℕ) (t : Remainder) → IsGathered s q (length s.graph.outputs) t → (p u : ℕ) →
    HasPlainOutput t.graph p u → last_set t.table u ≡ eqb p q
gathered_all s q t g p u o = by_equal p q
    (λ e same. g.itself u (subst (λ k. HasPlainOutput t.graph k u) same o) ∙ sym e)
    (λ f n. g.gone p u (subst (λ es. p < length es) g.rows.ends (slice_get_within t.graph.outputs p (plain u) o)) n o
    ∙ sym f)
