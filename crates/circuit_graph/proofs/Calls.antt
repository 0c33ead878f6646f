-- What the calls of a graph's methods make of a translation under way.
use Rattle.std.proofs.Common.{◌≡◌, ◌≢◌, refl, sym, ◌∙◌, ap, ap₂, subst, ℕ, ◌+◌, false, [], ◌∷◌, ◌++◌, set, remove}
use Rattle.std.specs.Prelude.{slice_get}
use Rattle.zx_model.specs.Bits.{member}
use Rattle.zx_calculus.specs.Graph.{XY, Plane, End, Graph, ids, kind_of, plane_of, joined, end_vertices, with_kinds, insert_vertex, IsVertex, OrderedEdges, WellFormed, plain}
use Rattle.zx_calculus.specs.Splits.{least_free}
use Rattle.zx_calculus.specs.Edits.{IsToggle, at_vertex}
use Rattle.zx_calculus.specs.Turns.{in_plane, with_phase_added}
use Rattle.zx_calculus.proofs.Ids.{apart_of_member}
use Rattle.zx_calculus.proofs.Splitting.{absent_from}
use Rattle.zx_calculus.proofs.Edits.{with_kinds-at}
pub use Rattle.zx_calculus.proofs.NewSpiders.{new_live, new_plane}
use Rattle.zx_calculus.proofs.NewSpiders.{vertices_are, old_live, edges_are}
use Rattle.gflow_laws.specs.Seen.{seen}
use Rattle.gflow_laws.specs.Splits.{split_output_table}
use Rattle.gflow_laws.specs.Flow.{order_of, SameSets}
use Rattle.gflow_laws.proofs.Flows.{Flows-from}
use Rattle.gflow_laws.proofs.Tables.{unlisted}
use Rattle.circuit_laws.specs.Peeling.{HasPlainOutput, IsSpiderPeel, IsPhasePeel, IsEdgePeel}
use Rattle.circuit_laws.proofs.Places.{member-places, output_there, one_place, absent-remove}
use Rattle.circuit_graph.specs.Behind.{IsSpiderPut}
use Rattle.circuit_graph.specs.Translation.{wires}
use Rattle.circuit_graph.proofs.Graphs.{spider_is}
use Rattle.circuit_graph.proofs.Gates.{least_is}
use Rattle.circuit_graph.proofs.Beginning.{at_both, next_is, one_more_wire}
use Rattle.circuit_graph.specs.Internal.Runs.{GraphSoFar, IsReady, IsSpiderStep}

pub here_live : (g : Graph) (q u : ℕ) → WellFormed g → HasPlainOutput g q u → IsVertex g u
here_live g q u w h = output_there g q (plain u) w h

-- ---- a vertex is added
module _ (s : Graph) (v phase : ℕ) (g : Graph) (fresh : member v (ids s.vertices) ≡ false) (zero_phase : phase ≡ 0)
    (added : g ≡ record { vertices = insert_vertex (record { id = v; kind = in_plane XY phase }) s.vertices; edges = s.edges; inputs = s.inputs; outputs = s.outputs }) where
  -- to wires
  pub new_free : (n : ℕ) → s ≡ wires n → (member v (end_vertices g.inputs) ≡ false) × (member v (end_vertices g.outputs) ≡ false)
  new_free n e = (
    ap (λ (h : Graph). member v (end_vertices h.inputs)) added ∙ ap (λ (h : Graph). member v (end_vertices h.inputs)) e ∙ none,
    ap (λ (h : Graph). member v (end_vertices h.outputs)) added ∙ ap (λ (h : Graph). member v (end_vertices h.outputs)) e ∙ none,
  )
    where
      none : member v (end_vertices (wires n).inputs) ≡ false
      none = sym (at_both n v) ∙ ap (λ (h : Graph). member v (ids h.vertices)) (sym e) ∙ fresh

  pub wires_more : (n : ℕ) → s ≡ wires n → WellFormed s → v ≡ least_free (ids s.vertices) → (end : End) (with_input h : Graph) → end ≡ plain v →
      with_input ≡ record { vertices = g.vertices; edges = g.edges; inputs = g.inputs ++ end ∷ []; outputs = g.outputs } →
      h ≡ record { vertices = with_input.vertices; edges = with_input.edges; inputs = with_input.inputs; outputs = with_input.outputs ++ end ∷ [] } → h ≡ wires (n + 1)
  wires_more n e w least end with_input h same with_i with_o =
      with_o
      ∙ ap (λ (k : Graph). record { vertices = k.vertices; edges = k.edges; inputs = k.inputs; outputs = k.outputs ++ end ∷ [] }) with_i
      ∙ ap (λ (k : Graph). record { vertices = k.vertices; edges = k.edges; inputs = k.inputs ++ end ∷ []; outputs = k.outputs ++ end ∷ [] }) added
      ∙ ap₂ (λ k f. record { vertices = insert_vertex (record { id = v; kind = in_plane XY k }) s.vertices; edges = s.edges; inputs = s.inputs ++ f ∷ []; outputs = s.outputs ++ f ∷ [] }) zero_phase same
      ∙ one_more_wire n s v e (next_is n s v e w least)

-- ---- H: a vertex is added, joined to the last spider, and takes the output over
module _ (s : Graph) (q here next phase : ℕ) (g : Graph) (w : WellFormed s) (output : HasPlainOutput s q here) (fresh : member next (ids s.vertices) ≡ false)
    (zero_phase : phase ≡ 0) (added : g ≡ record { vertices = insert_vertex (record { id = next; kind = in_plane XY phase }) s.vertices; edges = s.edges; inputs = s.inputs; outputs = s.outputs }) where
  pub here_there : IsVertex g here
  here_there = old_live s next phase g fresh zero_phase added here (here_live s q here w output)

  pub here_other : here ≢ next
  here_other = apart_of_member here next (ids s.vertices) (here_live s q here w output) fresh

  module _ (h : Graph) (toggle : IsToggle g here next h) where
    pub next_there : IsVertex h next
    next_there = ap (λ vs. member next (ids vs)) toggle.vertices ∙ new_live s next phase g fresh zero_phase added

    pub next_plane_there : plane_of h next ≡ XY
    next_plane_there = ap (λ vs. (kind_of vs next).plane) toggle.vertices ∙ new_plane s next phase g fresh zero_phase added

    outputs_are : h.outputs ≡ s.outputs
    outputs_are = toggle.frame.outputs ∙ ap (λ (h : Graph). h.outputs) added

    pub next_free_there : (i : ℕ) → member next (end_vertices (remove h.outputs i)) ≡ false
    next_free_there i = absent-remove next h.outputs i
        (ap (λ es. member next (end_vertices es)) outputs_are ∙ absent_from (ids s.vertices) (end_vertices s.outputs) next w.outputs.there fresh)

    spider_peel : (t : Graph) → t ≡ record { vertices = h.vertices; edges = h.edges; inputs = h.inputs; outputs = set h.outputs q (plain next) } →
        IsSpiderPeel t q s
    spider_peel t moved = record {
      spider = next;
      next = here;
      fresh = fresh;
      output = output;
      vertices = ap (λ (h : Graph). h.vertices) moved ∙ toggle.vertices ∙ vertices_are s next phase g fresh zero_phase added;
      ordered = subst (λ (h : Graph). OrderedEdges (ids h.vertices) h.edges) (sym moved) toggle.frame.ordered;
      ordered_too = w.edges;
      edges = λ p v. ap (λ (h : Graph). joined h.edges p v) moved ∙ edges_are s next phase g fresh zero_phase added w here h toggle p v;
      inputs = ap (λ (h : Graph). h.inputs) moved ∙ toggle.frame.inputs ∙ ap (λ (h : Graph). h.inputs) added;
      outputs = ap (λ (h : Graph). h.outputs) moved ∙ ap (λ es. set es q (plain next)) outputs_are;
    }

    pub spider_put : (t : Graph) → next ≡ least_free (ids s.vertices) →
        t ≡ record { vertices = h.vertices; edges = h.edges; inputs = h.inputs; outputs = set h.outputs q (plain next) } → IsSpiderPut s q here next t
    unfolding spider_peel
    spider_put t least moved = record { peel = spider_peel t moved; here_is = refl; spider_is = refl; least = least }

pub spider_step : (s : GraphSoFar) (q here next : ℕ) (t : GraphSoFar) → IsReady s → IsSpiderPut s.graph q here next t.graph →
    SameSets t.table (split_output_table here next s.table) → IsSpiderStep s q t
spider_step s q here next t r put same = record {
  peel = put.peel;
  id = put.spider_is ∙ put.least ∙ least_is s.graph r.well_formed r.numbered;
  table = subst (λ h. SameSets t.table (split_output_table h put.peel.spider s.table)) (sym put.here_is)
      (subst (λ n. SameSets t.table (split_output_table here n s.table)) (sym put.spider_is) same);
}

-- the last spider of a wire isn't corrected yet
pub here_uncorrected : (s : GraphSoFar) (q here : ℕ) → IsReady s → HasPlainOutput s.graph q here → member here (order_of s.table) ≡ false
here_uncorrected s q here r output =
    unlisted (seen s.graph) s.table (Flows-from (seen s.graph) s.table r.flow) here (member-places s.graph.outputs q (plain here) output)

-- ---- Phase
pub phase_peel : (s : Graph) (q here k before after : ℕ) (plane : Plane) (t : Graph) → WellFormed s → HasPlainOutput s q here →
    in_plane plane before ≡ kind_of s.vertices here → in_plane plane after ≡ with_phase_added k (in_plane plane before) →
    t ≡ record { vertices = with_kinds (at_vertex here (λ _. in_plane plane after)) s.vertices; edges = s.edges; inputs = s.inputs; outputs = s.outputs } →
    IsPhasePeel t q k s
phase_peel s q here k before after plane t w output was becomes set = record {
  vertex = here;
  output = ap (λ (h : Graph). slice_get h.outputs q) set ∙ output;
  vertices = ap (λ (h : Graph). h.vertices) set ∙ ap (λ kind. with_kinds (at_vertex here (λ _. kind)) s.vertices) (becomes ∙ ap (with_phase_added k) was)
      ∙ with_kinds-at here (with_phase_added k) s.vertices w.vertices_rising;
  edges = ap (λ (h : Graph). h.edges) set;
  inputs = ap (λ (h : Graph). h.inputs) set;
  outputs = ap (λ (h : Graph). h.outputs) set;
}

-- ---- Cz
pub wires_apart : (g : Graph) (p q u v : ℕ) → WellFormed g → HasPlainOutput g p u → HasPlainOutput g q v → p ≢ q → u ≢ v
wires_apart g p q u v w h i n e = n (one_place g.outputs p q (plain u) (plain v) w.outputs.one_each h i e)

pub toggle_peel : (s : Graph) (p q u v : ℕ) (t : Graph) → WellFormed s → HasPlainOutput s p u → HasPlainOutput s q v → p ≢ q →
    IsToggle s u v t → IsEdgePeel t p q s
toggle_peel s p q u v t w h i n toggle = record {
  first = u;
  second = v;
  different = wires_apart s p q u v w h i n;
  output = ap (λ es. slice_get es p) toggle.frame.outputs ∙ h;
  output_too = ap (λ es. slice_get es q) toggle.frame.outputs ∙ i;
  vertices = toggle.vertices;
  ordered_too = w.edges;
  edges = λ a b _. toggle.edges a b;
  frame = toggle.frame;
}
