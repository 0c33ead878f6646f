-- Rows that are gathered at an output in the flow and by gates alone: the graph is as it would be, but for that
-- output's own row.
use Rattle.std.proofs.Common.{◌≡◌, ◌≢◌, refl, sym, ◌∙◌, ap, ap₂, subst, ℕ, ◌+◌, true, false, not, ◌&&◌, eqb, ne_eqb, List, ◌∷◌, length}
use Rattle.std.specs.Prelude.{slice_get}
use Rattle.zx_model.specs.Bits.{xor, member}
use Rattle.zx_model.proofs.BitLemmas.{xor_comm, xor-false}
use Rattle.zx_calculus.specs.Graph.{YZ, Graph, ids, kind_of, plane_of, joined, end_vertices, IsVertex, WellFormed, plain}
use Rattle.zx_calculus.specs.Adjacency.{adjacent_graph}
use Rattle.zx_calculus.proofs.Booleans.{and_comm, and-false}
use Rattle.zx_calculus.proofs.Ids.{by_equal, Symmetric, apart_of_member}
use Rattle.zx_calculus.proofs.Edges.{joined_comm}
use Rattle.zx_calculus.proofs.Splitting.{joined-absent}
use Rattle.zx_calculus.proofs.EdgeLists.{OrderedEdges-edges_of, edges_ext}
use Rattle.zx_calculus.proofs.Programs.{edges_full}
use Rattle.gflow_laws.specs.Flow.{Correction, SameSets}
use Rattle.gflow_laws.specs.Outputs.{row_added, row_added_table}
use Rattle.zx_gates.specs.declared.gate.Gate.TheVariants.{Cx}
use Rattle.circuit_laws.specs.Peeling.{HasPlainOutput}
use Rattle.circuit_laws.proofs.Places.{member-places, output_there}
use Rattle.zx_extract.specs.Internal.FrontGraphs.{IsRowTaken}
use Rattle.zx_extract.specs.Internal.Lists.{last_set}
use Rattle.zx_extract.specs.Internal.Leading.{Remainder, IsReady, IsFrontier}
use Rattle.zx_extract.specs.Internal.Steps.{IsRowAdded, IsSetAdded, HasLast, IsPicked, IsGathered, IsGatheredBesideRow, IsRowReplaced}
use Rattle.zx_extract.proofs.Places.{one_vertex, one_output}
use Rattle.zx_extract.proofs.Lasts.{keeps_last}
use Rattle.zx_extract.proofs.LastVertex.{last_live, picked_no_input, u_apart, linked}
use Rattle.zx_extract.proofs.Rows.{edges_are, gathered_nothing, gathered_row, gathered_all}

-- ---- the graph with a row added
abbrev pub with_row : Graph → ℕ → ℕ → Graph
with_row g c t = adjacent_graph g g.vertices (row_added (joined g.edges) c t)

module _ (g : Graph) (c t : ℕ) (wf : WellFormed g) (there : IsVertex g t) where
  symmetric : Symmetric (row_added (joined g.edges) c t)
  symmetric p q = ap₂ xor (joined_comm g.edges p q)
      (xor_comm (eqb t p && joined g.edges c q) (joined g.edges c p && eqb t q)
      ∙ ap₂ xor (and_comm (joined g.edges c p) (eqb t q)) (and_comm (eqb t p) (joined g.edges c q)))

  absent : (p q : ℕ) → member p (ids g.vertices) ≡ false → row_added (joined g.edges) c t p q ≡ false
  absent p q out =
      ap₂ xor (joined-absent (ids g.vertices) g.edges p q wf.edges.lower_there wf.edges.higher_there out)
      (ap₂ (λ a b. xor (a && joined g.edges c q) (b && eqb t q))
      (ne_eqb t p (λ e. apart_of_member t p (ids g.vertices) there out e))
      (joined_comm g.edges c p
      ∙ joined-absent (ids g.vertices) g.edges p c wf.edges.lower_there wf.edges.higher_there out))

  pub row_law : (p q : ℕ) → p ≢ q → joined (with_row g c t).edges p q ≡ row_added (joined g.edges) c t p q
  row_law p q n = edges_full (row_added (joined g.edges) c t) (ids g.vertices) p q symmetric n (absent p q)
      (λ out. symmetric p q ∙ absent q p out)

-- ---- gathering
pub beside_nothing : (s : Remainder) (q : ℕ) → IsReady s → IsFrontier s.graph → IsPicked s q → IsGatheredBesideRow s q 0 s
beside_nothing s q r f picked = record {
  whole = s;
  gathered = gathered_nothing s q r f picked;
  alike = record {
    edges = λ u p w _ _ _. refl;
    vertices = refl;
    inputs = refl;
    outputs = refl;
    table = refl;
    gates = refl;
  };
  formed = r.given.well_formed;
  stays = refl;
}

module _ (s : Remainder) (q i v : ℕ) (d : Remainder) (b : IsGatheredBesideRow s q i d) (last : HasLast s.table v) where
  whole_last : HasLast b.whole.table v
  whole_last = keeps_last s.table b.whole.table v b.gathered.rows.order last

  pub beside_last : HasLast d.table v
  beside_last = subst (λ table. HasLast table v) (sym b.alike.table) whole_last

  module _ (h : Remainder) (n : i ≢ q) (w : ℕ) (o : HasPlainOutput d.graph i w) (there : last_set d.table w ≡ true)
      (a : IsSetAdded d i q h) where
    at_added : HasPlainOutput b.whole.graph i a.added
    at_added = ap (λ es. slice_get es i) (sym b.alike.outputs) ∙ a.output

    at_to : HasPlainOutput b.whole.graph q a.to
    at_to = ap (λ es. slice_get es q) (sym b.alike.outputs) ∙ a.output_too

    abbrev next : Remainder
    next = record { graph = with_row b.whole.graph a.added a.to; table = h.table; gates = h.gates }

    in_set : last_set b.whole.table a.added ≡ true
    in_set = ap (λ table. last_set table a.added) (sym b.alike.table)
        ∙ ap (last_set d.table) (one_vertex d.graph i a.added w a.output o) ∙ there

    row : IsRowAdded b.whole i q next
    row = record {
      row = record {
        added = a.added;
        to = a.to;
        different = λ e. n (one_output b.whole.graph i q a.to b.gathered.rows.ready.given.well_formed
            (subst (HasPlainOutput b.whole.graph i) e at_added) at_to);
        output = at_added;
        output_too = at_to;
        phase = b.gathered.rows.frontier.phase i a.added refl at_added;
        no_input = picked_no_input b.gathered.rows.ready b.gathered.rows.frontier whole_last a.added
            (member-places b.whole.graph.outputs i (plain a.added) at_added) in_set;
        not_adjacent = b.gathered.rows.frontier.apart i q refl refl a.added a.to at_added at_to;
        vertices = refl;
        ordered_too = OrderedEdges-edges_of _ _ b.gathered.rows.ready.given.well_formed.vertices_rising;
        edges = row_law b.whole.graph a.added a.to b.gathered.rows.ready.given.well_formed
            (output_there b.whole.graph q (plain a.to) b.gathered.rows.ready.given.well_formed at_to);
        frame = record { ordered = b.gathered.rows.ready.given.well_formed.edges; inputs = refl; outputs = refl };
      };
      table = subst (λ table. SameSets h.table (row_added_table a.added a.to table)) b.alike.table a.table;
      gates = a.gates ∙ ap (λ gs. Cx q i ∷ gs) b.alike.gates;
    }

    pub beside_row : IsGatheredBesideRow s q (i + 1) h
    unfolding row
    beside_row = record {
      whole = next;
      gathered = gathered_row s q i v b.whole next b.gathered last n a.added at_added in_set row;
      alike = record {
        edges = λ u p x at_u m k. let same : a.to ≡ u = one_vertex b.whole.graph q a.to u at_to at_u in
            ap (λ (g : Graph). joined g.edges p x) a.graph ∙ b.alike.edges u p x at_u m k
            ∙ sym (edges_are b.whole i q next b.gathered.rows.ready b.gathered.rows.frontier row p x
            ∙ ap₂ (λ y z. xor (joined b.whole.graph.edges p x)
            (xor (y && joined b.whole.graph.edges a.added x) (joined b.whole.graph.edges a.added p && z)))
            (ne_eqb a.to p (λ e. m (sym e ∙ same))) (ne_eqb a.to x (λ e. k (sym e ∙ same)))
            ∙ ap (xor (joined b.whole.graph.edges p x)) (and-false (joined b.whole.graph.edges a.added p))
            ∙ xor-false (joined b.whole.graph.edges p x));
        vertices = ap (λ (g : Graph). g.vertices) a.graph ∙ b.alike.vertices;
        inputs = ap (λ (g : Graph). g.inputs) a.graph ∙ b.alike.inputs;
        outputs = ap (λ (g : Graph). g.outputs) a.graph ∙ b.alike.outputs;
        table = refl;
        gates = refl;
      };
      formed = subst WellFormed (sym a.graph) b.formed;
      stays = a.graph ∙ b.stays;
    }

pub set_added : (s : Remainder) (c t u v : ℕ) (table : List Correction) (h : Remainder) → HasPlainOutput s.graph c u →
    HasPlainOutput s.graph t v → SameSets table (row_added_table u v s.table) →
    h ≡ record { graph = s.graph; table = table; gates = Cx t c ∷ s.gates } → IsSetAdded s c t h
set_added s c t u v table h o i sets is = subst (IsSetAdded s c t) (sym is) (record {
  added = u;
  to = v;
  output = o;
  output_too = i;
  graph = refl;
  table = sets;
  gates = refl;
})

-- ---- the row of the output that stays
pub row_replaced : (s : Remainder) (v q u : ℕ) (g : Graph) → HasPlainOutput s.graph q u → IsRowTaken s.graph v u g →
    IsRowReplaced s v q (record { graph = g; table = s.table; gates = s.gates })
row_replaced s v q u g o taken = record {
  link = u;
  output = o;
  row = taken.row;
  others = taken.others;
  vertices = taken.vertices;
  frame = taken.frame;
  table = refl;
  gates = refl;
}

module _ (s : Remainder) (v q : ℕ) (d : Remainder) (b : IsGatheredBesideRow s q (length s.graph.outputs) d)
    (last : HasLast s.table v) (plane : plane_of s.graph v ≡ YZ) where
  pub beside_live : IsVertex d.graph v
  beside_live = ap (λ vs. member v (ids vs)) b.alike.vertices
      ∙ last_live b.gathered.rows.ready b.gathered.rows.frontier
      (whole_last s q (length s.graph.outputs) v d b last)

  module _ (h : Remainder) (a : IsRowReplaced d v q h) where
    at_link : HasPlainOutput b.whole.graph q a.link
    at_link = ap (λ es. slice_get es q) (sym b.alike.outputs) ∙ a.output

    still_YZ : plane_of b.whole.graph v ≡ YZ
    still_YZ = ap (λ vs. (kind_of vs v).plane) b.gathered.rows.same ∙ plane

    v_apart : v ≢ a.link
    v_apart e = u_apart b.gathered.rows.ready b.gathered.rows.frontier
        (whole_last s q (length s.graph.outputs) v d b last) q (gathered_all s q b.whole b.gathered) at_link (sym e)

    row_is : (w : ℕ) → w ≢ a.link → joined h.graph.edges a.link w ≡ joined b.whole.graph.edges a.link w
    row_is w n = a.row w n
        ∙ ap₂ (λ x y. x && not y) (b.alike.edges a.link v w at_link v_apart n)
        (ap (λ es. member w (end_vertices es)) b.alike.outputs)
        ∙ sym (linked b.gathered.rows.ready b.gathered.rows.frontier
        (whole_last s q (length s.graph.outputs) v d b last) q (gathered_all s q b.whole b.gathered) at_link still_YZ w)

    edges_same : (p w : ℕ) → p ≢ w → joined h.graph.edges p w ≡ joined b.whole.graph.edges p w
    edges_same p w n = by_equal p a.link
        (λ _ e. ap (λ x. joined h.graph.edges x w) e ∙ row_is w (λ f. n (e ∙ sym f))
        ∙ sym (ap (λ x. joined b.whole.graph.edges x w) e))
        (λ _ m. by_equal w a.link
        (λ _ e. joined_comm h.graph.edges p w ∙ ap (λ x. joined h.graph.edges x p) e ∙ row_is p m
        ∙ sym (joined_comm b.whole.graph.edges p w ∙ ap (λ x. joined b.whole.graph.edges x p) e))
        (λ _ k. a.others p w m k ∙ b.alike.edges a.link p w at_link m k))

    whole_again : h ≡ b.whole
    whole_again =
        let wf : WellFormed b.whole.graph = b.gathered.rows.ready.given.well_formed in
        let edges : h.graph.edges ≡ b.whole.graph.edges = edges_ext h.graph.edges b.whole.graph.edges
        a.frame.ordered.lower_first wf.edges.lower_first a.frame.ordered.rising wf.edges.rising edges_same in
        λ j. record {
          graph = record {
            vertices = (a.vertices ∙ b.alike.vertices) j;
            edges = edges j;
            inputs = (a.frame.inputs ∙ b.alike.inputs) j;
            outputs = (a.frame.outputs ∙ b.alike.outputs) j;
          };
          table = (a.table ∙ b.alike.table) j;
          gates = (a.gates ∙ b.alike.gates) j;
        }

    pub gathered_again : IsGathered s q (length s.graph.outputs) h
    gathered_again = subst (IsGathered s q (length s.graph.outputs)) (sym whole_again) b.gathered
