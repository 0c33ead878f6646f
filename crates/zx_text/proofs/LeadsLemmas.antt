-- The lines of a file lead to its end, and whatever lines lead to leads on to the end of a file.
use Rattle.std.proofs.Common.{◌≡◌, ℕ, ◌*◌, ◌/◌, ◌%◌, ◌≤◌, Bool, true, false, not, eqb, ltb, leb, ◌||◌, ◌&&◌, if◌then◌else◌, List, [], ◌∷◌, ◌++◌, map, filter, length, refl, sym, ap, ap₂, ◌∙◌, subst, lt-ltb, eqb-true, eq-eqb, true≢false, append_assoc, append-nil, length-append, arith, Option, None, Some}
use Rattle.std.proofs.lemmas.Bool.{le-leb}
use Rattle.std.specs.List.{list_all, range_with_len}
use Rattle.zx_model.specs.Phase.{turn}
use Rattle.zx_model.specs.Bits.{member}
use Rattle.zx_calculus.specs.Graph.{Vertex, Edge, End, Graph, OrderedEnds, Distinct, ids, end_vertices, in_order, different, edge_before, is_XY, kind_of}
use Rattle.zx_calculus.proofs.Ids.{by_test, by_equal, eqb-self, and-left, and-right, or-left, or-right, member-here, member-there, member-append, Distinct-different}
use Rattle.zx_calculus.proofs.Kept.{both, all_by}
use Rattle.gflow_laws.specs.Flow.{Correction, order_of, set_of}
use Rattle.gflow_laws.specs.Tables.{with_sets}
use Rattle.zx_text.specs.Files.{Version, One, Two, unit, non_outputs, lines, flow_lines, vertex_line, edge_line, input_line, output_line}
use Rattle.zx_text.specs.Lines.{Line, FlowLine, OrderLine, CorrectLine, EndLine}
use Rattle.zx_text.specs.Reading.{Wanted, is_wanted, most_ends, IsFile, IsFlowOfFile}
use Rattle.zx_text.specs.Formats.{run, GoesOn}
use Rattle.zx_text.specs.Internal.Stepping.{Part, LinesSoFar, InGraph, AtFlow, InSets, Over, file_step, begun, vertex_fits, edge_fits, end_fits, order_fits, set_fits, vertex_added, with_set}
use Rattle.zx_text.specs.Internal.GraphFormat.{graph_files}
use Rattle.zx_text.specs.Internal.Said.{graph_lines, set_lines, IsSoFar}
use Rattle.zx_text.proofs.PartLemmas.{length-last}
use Rattle.zx_text.proofs.SetLemmas.{in_all, list_all-same, none_out, member-different}
use Rattle.zx_text.proofs.RunLemmas.{run-append, run_step, fitting}
use Rattle.zx_text.proofs.SaidLemmas.{range_below, non_outputs-distinct, lines-graph}

first_of : {A : Type 0} {x y : A} {xs ys : List A} → x ∷ xs ≡ y ∷ ys → x ≡ y
first_of e = cc

rest_of : {A : Type 0} {x y : A} {xs ys : List A} → x ∷ xs ≡ y ∷ ys → xs ≡ ys
rest_of e = cc

-- ---- lists that are cut in two
pub at_append : {A : Type 0} (p : A → Bool) (xs : List A) (x : A) (ys : List A) → list_all p (xs ++ x ∷ ys) ≡ true → p x ≡ true
at_append p [] x ys all = and-left _ _ all
at_append p (y ∷ xs) x ys all = at_append p xs x ys (and-right _ _ all)

all_before : {A : Type 0} (before : A → A → Bool) (xs : List A) (x : A) (ys : List A) → in_order before (xs ++ x ∷ ys) ≡ true → list_all (λ d. before d x) xs ≡ true
all_before before [] x ys order = refl
all_before before (y ∷ xs) x ys order =
    both _ _ (at_append (before y) xs x ys (and-left _ _ order)) (all_before before xs x ys (and-right _ _ order))

end_vertices-append : (xs ys : List End) → end_vertices (xs ++ ys) ≡ end_vertices xs ++ end_vertices ys
end_vertices-append [] ys = refl
end_vertices-append (x ∷ xs) ys = ap (λ l. x.vertex ∷ l) (end_vertices-append xs ys)

-- ---- vertices
pub redone : (version : Version) (phase : ℕ) → phase % unit version ≡ 0 → (phase / unit version) * unit version ≡ phase
redone One phase e = omega (arith, e)
redone Two phase e = omega (arith, e)

abbrev at_vertices : List Vertex → Part
at_vertices vs = record { section = 0; graph = record { vertices = vs; edges = []; inputs = []; outputs = [] } }

vertices_run : (version : Version) (wanted : Wanted) (done rest : List Vertex) → ids rest ≡ range_with_len (length done) (length rest)
    → list_all (λ v. ltb v.kind.phase turn) rest ≡ true → list_all (λ v. eqb (v.kind.phase % unit version) 0) rest ≡ true
    → run (file_step version wanted) (Some (InGraph (at_vertices done))) (map (vertex_line version) rest) ≡ Some (InGraph (at_vertices (done ++ rest)))
vertices_run version wanted done [] numbered turns units = ap (λ vs. Some (InGraph (at_vertices vs))) (sym (append-nil done))
vertices_run version wanted done (v ∷ rest) numbered turns units =
    let k : ℕ = v.kind.phase / unit version in
    let exact : k * unit version ≡ v.kind.phase = redone version v.kind.phase (eqb-true (v.kind.phase % unit version) 0 (and-left _ _ units)) in
    let fits : vertex_fits version (at_vertices done) v.id k ≡ true =
    both _ _ (le-leb 0 0 (omega arith)) (both _ _ (eq-eqb v.id (length done) (first_of numbered)) (ap (λ n. ltb n turn) exact ∙ and-left _ _ turns)) in
    let next : Part = vertex_added version (at_vertices done) v.id v.kind.plane k in
    let same : next ≡ at_vertices (done ++ v ∷ []) = ap (λ n. at_vertices (done ++ record { id = v.id; kind = record { plane = v.kind.plane; phase = n } } ∷ [])) exact in
    run_step (file_step version wanted) (InGraph (at_vertices done)) (InGraph (at_vertices (done ++ v ∷ []))) (vertex_line version v) (map (vertex_line version) rest)
    (fitting _ (InGraph next) fits ∙ ap (λ p. Some (InGraph p)) same)
    ∙ vertices_run version wanted (done ++ v ∷ []) rest (rest_of numbered ∙ ap (λ n. range_with_len n (length rest)) (sym (length-last done v)))
    (and-right _ _ turns) (and-right _ _ units)
    ∙ ap (λ vs. Some (InGraph (at_vertices vs))) (append_assoc done (v ∷ []) rest)

-- ---- edges and ends
-- lines lead to this graph, and the last of them is of such a section
record LeadsTo (version : Version) (wanted : Wanted) (st : LinesSoFar) (ls : List Line) (g : Graph) (most : ℕ) : Type 0 where
  section : ℕ
  low : section ≤ most
  leads : run (file_step version wanted) (Some st) ls ≡ Some (InGraph (record { section = section; graph = g }))

abbrev at_section : ℕ → Graph → LinesSoFar
at_section s g = InGraph (record { section = s; graph = g })

abbrev graph_with : List Vertex → List Edge → List End → List End → Graph
graph_with vs es is os = record { vertices = vs; edges = es; inputs = is; outputs = os }

below_in : (vs : List Vertex) (v : ℕ) → ids vs ≡ range_with_len 0 (length vs) → member v (ids vs) ≡ true → ltb v (length vs) ≡ true
below_in vs v numbered inside =
    let lt = range_below 0 (length vs) v (ap (member v) (sym numbered) ∙ inside) in
    lt-ltb v (length vs) (omega (arith, lt))

edges_run : (version : Version) (wanted : Wanted) (vs : List Vertex) (done rest : List Edge) (s : ℕ) → s ≤ 1 → ids vs ≡ range_with_len 0 (length vs)
    → list_all (λ e. ltb e.lower e.higher) rest ≡ true → list_all (λ e. member e.higher (ids vs)) rest ≡ true → in_order edge_before (done ++ rest) ≡ true
    → LeadsTo version wanted (at_section s (graph_with vs done [] [])) (map edge_line rest) (graph_with vs (done ++ rest) [] []) 1
edges_run version wanted vs done [] s low numbered first there order =
    record { section = s; low = low; leads = ap (λ es. Some (at_section s (graph_with vs es [] []))) (sym (append-nil done)) }
edges_run version wanted vs done (e ∷ rest) s low numbered first there order =
    let p : Part = record { section = s; graph = graph_with vs done [] [] } in
    let fits : edge_fits p e.lower e.higher ≡ true =
    both _ _ (le-leb s 1 low) (both _ _ (and-left _ _ first) (both _ _ (below_in vs e.higher numbered (and-left _ _ there)) (all_before edge_before done e rest order))) in
    let next = edges_run version wanted vs (done ++ e ∷ []) rest 1 (omega arith) numbered (and-right _ _ first) (and-right _ _ there)
    (ap (in_order edge_before) (append_assoc done (e ∷ []) rest) ∙ order) in
    record {
      section = next.section;
      low = next.low;
      leads = run_step (file_step version wanted) (InGraph p) (at_section 1 (graph_with vs (done ++ e ∷ []) [] [])) (edge_line e) (map edge_line rest) (fitting _ _ fits)
          ∙ next.leads ∙ ap (λ es. Some (at_section next.section (graph_with vs es [] []))) (append_assoc done (e ∷ []) rest);
    }

absent_by : (v : ℕ) (xs : List ℕ) → list_all (λ d. different d v) xs ≡ true → member v xs ≡ false
absent_by v xs all = by_test (member v xs) (λ t. absurd (true≢false (sym all ∙ member-different v xs t))) (λ f. f)

end_ready : (g : Graph) (done : List End) (e : End) (rest : List End) → ids g.vertices ≡ range_with_len 0 (length g.vertices) → OrderedEnds g.vertices (done ++ e ∷ rest)
    → length (done ++ e ∷ rest) ≤ most_ends → end_fits g done e.vertex ≡ true
end_ready g done e rest numbered are few =
    let at : end_vertices (done ++ e ∷ rest) ≡ end_vertices done ++ e.vertex ∷ end_vertices rest = end_vertices-append done (e ∷ rest) in
    let size = length-append done (e ∷ rest) in
    both _ _ (lt-ltb (length done) most_ends (omega (arith, size, few)))
    (both _ _ (below_in g.vertices e.vertex numbered (at_append (λ u. member u (ids g.vertices)) (end_vertices done) e.vertex (end_vertices rest) (ap (list_all (λ u. member u (ids g.vertices))) (sym at) ∙ are.there)))
    (both _ _ (at_append (λ u. is_XY (kind_of g.vertices u).plane) (end_vertices done) e.vertex (end_vertices rest) (ap (list_all (λ u. is_XY (kind_of g.vertices u).plane)) (sym at) ∙ are.at_XY))
    (ap not (absent_by e.vertex (end_vertices done) (all_before different (end_vertices done) e.vertex (end_vertices rest) (ap (in_order different) (sym at) ∙ are.one_each))))))

inputs_run : (version : Version) (wanted : Wanted) (vs : List Vertex) (es : List Edge) (done rest : List End) (s : ℕ) → s ≤ 2 → ids vs ≡ range_with_len 0 (length vs)
    → OrderedEnds vs (done ++ rest) → length (done ++ rest) ≤ most_ends
    → LeadsTo version wanted (at_section s (graph_with vs es done [])) (map input_line rest) (graph_with vs es (done ++ rest) []) 2
inputs_run version wanted vs es done [] s low numbered are few =
    record { section = s; low = low; leads = ap (λ is. Some (at_section s (graph_with vs es is []))) (sym (append-nil done)) }
inputs_run version wanted vs es done (e ∷ rest) s low numbered are few =
    let g : Graph = graph_with vs es done [] in
    let whole : (done ++ e ∷ []) ++ rest ≡ done ++ e ∷ rest = append_assoc done (e ∷ []) rest in
    let fits : (leb s 2 && end_fits g done e.vertex) ≡ true = both _ _ (le-leb s 2 low) (end_ready g done e rest numbered are few) in
    let next = inputs_run version wanted vs es (done ++ e ∷ []) rest 2 (omega arith) numbered (subst (OrderedEnds vs) (sym whole) are) (subst (λ is. length is ≤ most_ends) (sym whole) few) in
    record {
      section = next.section;
      low = next.low;
      leads = run_step (file_step version wanted) (at_section s g) (at_section 2 (graph_with vs es (done ++ e ∷ []) [])) (input_line e) (map input_line rest) (fitting _ _ fits)
          ∙ next.leads ∙ ap (λ is. Some (at_section next.section (graph_with vs es is []))) whole;
    }

outputs_run : (version : Version) (wanted : Wanted) (vs : List Vertex) (es : List Edge) (is done rest : List End) (s : ℕ) → s ≤ 3 → ids vs ≡ range_with_len 0 (length vs)
    → OrderedEnds vs (done ++ rest) → length (done ++ rest) ≤ most_ends
    → LeadsTo version wanted (at_section s (graph_with vs es is done)) (map output_line rest) (graph_with vs es is (done ++ rest)) 3
outputs_run version wanted vs es is done [] s low numbered are few =
    record { section = s; low = low; leads = ap (λ os. Some (at_section s (graph_with vs es is os))) (sym (append-nil done)) }
outputs_run version wanted vs es is done (e ∷ rest) s low numbered are few =
    let g : Graph = graph_with vs es is done in
    let whole : (done ++ e ∷ []) ++ rest ≡ done ++ e ∷ rest = append_assoc done (e ∷ []) rest in
    let fits : (leb s 3 && end_fits g done e.vertex) ≡ true = both _ _ (le-leb s 3 low) (end_ready g done e rest numbered are few) in
    let next = outputs_run version wanted vs es is (done ++ e ∷ []) rest 3 (omega arith) numbered (subst (OrderedEnds vs) (sym whole) are) (subst (λ os. length os ≤ most_ends) (sym whole) few) in
    record {
      section = next.section;
      low = next.low;
      leads = run_step (file_step version wanted) (at_section s g) (at_section 3 (graph_with vs es is (done ++ e ∷ []))) (output_line e) (map output_line rest) (fitting _ _ fits)
          ∙ next.leads ∙ ap (λ os. Some (at_section next.section (graph_with vs es is os))) whole;
    }

graph_run : (version : Version) (wanted : Wanted) (g : Graph) (table : Option (List Correction)) → IsFile version g table
    → LeadsTo version wanted (InGraph begun) (graph_lines version g) g 3
graph_run version wanted g table file =
    let v : run (file_step version wanted) (Some (InGraph begun)) (map (vertex_line version) g.vertices) ≡ Some (InGraph (at_vertices g.vertices)) =
    vertices_run version wanted [] g.vertices file.numbered file.graph.phases_below_a_turn file.phases in
    let e = edges_run version wanted g.vertices [] g.edges 0 (omega arith) file.numbered file.graph.edges.lower_first file.graph.edges.higher_there file.graph.edges.rising in
    let low_e = e.low in
    let i = inputs_run version wanted g.vertices g.edges [] g.inputs e.section (omega (arith, low_e)) file.numbered file.graph.inputs file.few_inputs in
    let low_i = i.low in
    let o = outputs_run version wanted g.vertices g.edges g.inputs [] g.outputs i.section (omega (arith, low_i)) file.numbered file.graph.outputs file.few_outputs in
    record {
      section = o.section;
      low = o.low;
      leads = run-append (file_step version wanted) (Some (InGraph begun)) (map (vertex_line version) g.vertices) (map edge_line g.edges ++ (map input_line g.inputs ++ map output_line g.outputs))
          ∙ ap (λ s. run (file_step version wanted) s (map edge_line g.edges ++ (map input_line g.inputs ++ map output_line g.outputs))) v
          ∙ run-append (file_step version wanted) (Some (InGraph (at_vertices g.vertices))) (map edge_line g.edges) (map input_line g.inputs ++ map output_line g.outputs)
          ∙ ap (λ s. run (file_step version wanted) s (map input_line g.inputs ++ map output_line g.outputs)) e.leads
          ∙ run-append (file_step version wanted) (Some (at_section e.section (graph_with g.vertices g.edges [] []))) (map input_line g.inputs) (map output_line g.outputs)
          ∙ ap (λ s. run (file_step version wanted) s (map output_line g.outputs)) i.leads
          ∙ o.leads;
    }

-- ---- the sets of a flow, one after the other
abbrev listed : (ℕ → List ℕ) → List ℕ → List Correction
listed f vs = map (λ v. record { vertex = v; members = f v }) vs

-- the sets of the vertices that are done, and nothing at the others
abbrev partly : List Correction → List ℕ → ℕ → List ℕ
partly t done = λ u. if member u done then set_of t u else []

with_sets-listed : (change : ℕ → List ℕ → List ℕ) (f : ℕ → List ℕ) (vs : List ℕ) → with_sets change (listed f vs) ≡ listed (λ u. change u (f u)) vs
with_sets-listed change f [] = refl
with_sets-listed change f (v ∷ vs) = ap (λ l. record { vertex = v; members = change v (f v) } ∷ l) (with_sets-listed change f vs)

one_more : (t : List Correction) (done : List ℕ) (v u : ℕ) → (if eqb u v then set_of t v else partly t done u) ≡ partly t (done ++ v ∷ []) u
one_more t done v u =
    by_equal u v
    (λ same e. ap (λ b. if b then set_of t v else partly t done u) same
    ∙ ap (set_of t) (sym e)
    ∙ sym (ap (λ b. if b then set_of t u else []) (member-append u done (v ∷ []) ∙ last_true (member u done) _ (ap (λ b. b || false) same))))
    (λ other n. ap (λ b. if b then set_of t v else partly t done u) other
    ∙ ap (λ b. if b then set_of t u else []) (sym (member-append u done (v ∷ []) ∙ ap (λ b. member u done || (b || false)) other ∙ or-none (member u done))))
  where
    last_true : (a b : Bool) → b ≡ true → (a || b) ≡ true
    last_true true b e = refl
    last_true false b e = e

    or-none : (b : Bool) → (b || false) ≡ b
    or-none true = refl
    or-none false = refl

as_listed : (t : List Correction) → Distinct (order_of t) → (f : ℕ → List ℕ) → ((u : ℕ) → member u (order_of t) ≡ true → f u ≡ set_of t u) → listed f (order_of t) ≡ t
as_listed [] differ f same = refl
as_listed (e ∷ es) differ f same =
    ap₂ (λ ms l. record { vertex = e.vertex; members = ms } ∷ l)
    (same e.vertex (member-here e.vertex (order_of es)) ∙ ap (λ b. if b then e.members else set_of es e.vertex) (eqb-self e.vertex))
    (as_listed es differ.1 f (λ u inside. same u (member-there u e.vertex (order_of es) inside)
    ∙ by_equal u e.vertex
    (λ t s. absurd (true≢false (sym inside ∙ ap (λ w. member w (order_of es)) s ∙ differ.0)))
    (λ other n. ap (λ b. if b then e.members else set_of es u) other)))

abbrev sets_at : Graph → List Correction → List ℕ → List ℕ → LinesSoFar
sets_at g t done left = InSets (record { graph = g; table = t; done = done; left = left })

sets_run : (version : Version) (wanted : Wanted) (g : Graph) (t : List Correction) (done left : List ℕ) → list_all (λ v. set_fits g (set_of t v)) left ≡ true
    → run (file_step version wanted) (Some (sets_at g (listed (partly t done) (order_of t)) done left)) (set_lines t left ++ EndLine ∷ [])
    ≡ Some (Over g (Some (listed (partly t (done ++ left)) (order_of t))))
sets_run version wanted g t done [] fits = ap (λ d. Some (Over g (Some (listed (partly t d) (order_of t))))) (sym (append-nil done))
sets_run version wanted g t done (v ∷ left) fits =
    let here : (eqb v v && set_fits g (set_of t v)) ≡ true = both _ _ (eqb-self v) (and-left _ _ fits) in
    let table : with_set v (set_of t v) (listed (partly t done) (order_of t)) ≡ listed (partly t (done ++ v ∷ [])) (order_of t) =
    with_sets-listed (λ u set. if eqb u v then set_of t v else set) (partly t done) (order_of t)
    ∙ ap (λ f. listed f (order_of t)) (λ i u. one_more t done v u i) in
    run_step (file_step version wanted) (sets_at g (listed (partly t done) (order_of t)) done (v ∷ left)) (sets_at g (listed (partly t (done ++ v ∷ [])) (order_of t)) (done ++ v ∷ []) left)
    (CorrectLine v (set_of t v)) (set_lines t left ++ EndLine ∷ [])
    (fitting _ (sets_at g (with_set v (set_of t v) (listed (partly t done) (order_of t))) (done ++ v ∷ []) left) here ∙ ap (λ x. Some (sets_at g x (done ++ v ∷ []) left)) table)
    ∙ sets_run version wanted g t (done ++ v ∷ []) left (and-right _ _ fits)
    ∙ ap (λ d. Some (Over g (Some (listed (partly t d) (order_of t))))) (append_assoc done (v ∷ []) left)

or_all : (p q : ℕ → Bool) (xs : List ℕ) → list_all (λ v. q v || p v) xs ≡ true → list_all p (filter (λ v. not (q v)) xs) ≡ true
or_all p q [] all = refl
or_all p q (x ∷ xs) all =
    by_test (q x)
    (λ t. rw t (or_all p q xs (and-right _ _ all)))
    (λ f. rw f (both _ _ (ap (λ b. b || p x) (sym f) ∙ and-left _ _ all) (or_all p q xs (and-right _ _ all))))

order_ready : {g : Graph} {t : List Correction} → IsFlowOfFile g t → order_fits g (order_of t) ≡ true
order_ready {g} {t} flow =
    both _ _ flow.order.each_once
    (both _ _ (list_all-same (λ v. none_out g v) (order_of t) ∙ flow.order.no_others)
    (or_all (λ v. member v (order_of t)) (λ v. member v (end_vertices g.outputs)) (ids g.vertices) flow.order.all_there))

flow_run : (version : Version) (wanted : Wanted) (g : Graph) (t : List Correction) (s : ℕ) → IsFile version g (Some t)
    → run (file_step version wanted) (Some (at_section s g)) (flow_lines g (Some t) ++ EndLine ∷ []) ≡ Some (Over g (Some t))
flow_run version wanted g t s file =
    run_step (file_step version wanted) (AtFlow g) (sets_at g (listed (partly t []) (order_of t)) [] (non_outputs g)) (OrderLine (order_of t)) (set_lines t (non_outputs g) ++ EndLine ∷ [])
    (fitting _ _ (order_ready flow))
    ∙ sets_run version wanted g t [] (non_outputs g) (all_by (λ v. set_fits g (set_of t v)) (non_outputs g) (λ v inside. fits v (placed v inside)))
    ∙ ap (λ x. Some (Over g (Some x))) (as_listed t (Distinct-different (order_of t) flow.order.each_once) (partly t (non_outputs g))
    (λ u inside. ap (λ b. if b then set_of t u else []) (listed_there u inside)))
  where
    flow : IsFlowOfFile g t
    flow = file.flow

    others : (list_all (λ w. member w (non_outputs g)) (order_of t) && list_all (λ w. member w (order_of t)) (non_outputs g)) ≡ true
    others = and-right (in_order different (order_of t)) _ (order_ready flow)

    placed : (v : ℕ) → member v (non_outputs g) ≡ true → member v (order_of t) ≡ true
    placed v inside = in_all (λ w. member w (order_of t)) (non_outputs g) v (and-right (list_all (λ w. member w (non_outputs g)) (order_of t)) _ others) inside

    listed_there : (v : ℕ) → member v (order_of t) ≡ true → member v (non_outputs g) ≡ true
    listed_there v inside = in_all (λ w. member w (non_outputs g)) (order_of t) v (and-left _ _ others) inside

    below : (ws : List ℕ) → list_all (λ w. member w (ids g.vertices)) ws ≡ true → list_all (λ w. ltb w (length g.vertices)) ws ≡ true
    below [] all = refl
    below (w ∷ ws) all = both _ _ (below_in g.vertices w file.numbered (and-left _ _ all)) (below ws (and-right _ _ all))

    fits : (v : ℕ) → member v (order_of t) ≡ true → set_fits g (set_of t v) ≡ true
    fits v inside =
        both _ _ (in_all (λ w. in_order ltb (set_of t w)) (order_of t) v flow.rising inside)
        (below (set_of t v) (in_all (λ w. list_all (λ x. member x (ids g.vertices)) (set_of t w)) (order_of t) v flow.order.vertices inside))

-- ---- the lines of a file
pub complete : (version : Version) (wanted : Wanted) (g : Graph) (table : Option (List Correction)) → IsFile version g table → is_wanted wanted table ≡ true
    → run (file_step version wanted) (Some (InGraph begun)) (lines version g table) ≡ Some (Over g table)
complete version wanted g table file fits =
    let graph = graph_run version wanted g table file in
    ap (run (file_step version wanted) (Some (InGraph begun))) (lines-graph version g table)
    ∙ run-append (file_step version wanted) (Some (InGraph begun)) (graph_lines version g) (flow_lines g table ++ EndLine ∷ [])
    ∙ ap (λ s. run (file_step version wanted) s (flow_lines g table ++ EndLine ∷ [])) graph.leads
    ∙ behind table file fits graph.section
  where
    behind : (table : Option (List Correction)) → IsFile version g table → is_wanted wanted table ≡ true → (s : ℕ)
        → run (file_step version wanted) (Some (at_section s g)) (flow_lines g table ++ EndLine ∷ []) ≡ Some (Over g table)
    behind None file fits s = fitting _ (Over g None) fits
    behind (Some t) file fits s = flow_run version wanted g t s file

-- ---- some file goes on
finish_sets : (version : Version) (wanted : Wanted) (g : Graph) (t : List Correction) (done left : List ℕ) → GoesOn (graph_files wanted) version (sets_at g t done left)
finish_sets version wanted g t done [] = record { more = EndLine ∷ []; end = Over g (Some t); leads = refl; over = refl }
finish_sets version wanted g t done (v ∷ left) =
    let next = finish_sets version wanted g (with_set v [] t) (done ++ v ∷ []) left in
    record {
      more = CorrectLine v [] ∷ next.more;
      end = next.end;
      leads = run_step (file_step version wanted) (sets_at g t done (v ∷ left)) (sets_at g (with_set v [] t) (done ++ v ∷ []) left) (CorrectLine v []) next.more
          (fitting (eqb v v && set_fits g []) _ (both _ _ (eqb-self v) refl)) ∙ next.leads;
      over = next.over;
    }

distinct_order : (xs : List ℕ) → Distinct xs → in_order different xs ≡ true
distinct_order [] differ = refl
distinct_order (x ∷ xs) differ = both _ _ (apart x xs differ.0) (distinct_order xs differ.1)
  where
    apart : (x : ℕ) (ys : List ℕ) → member x ys ≡ false → list_all (different x) ys ≡ true
    apart x [] absent = refl
    apart x (y ∷ ys) absent = both _ _ (ap not (or-left _ _ absent)) (apart x ys (or-right _ _ absent))

finish_flow : (version : Version) (wanted : Wanted) (g : Graph) → IsFile version g None → GoesOn (graph_files wanted) version (AtFlow g)
finish_flow version wanted g file =
    let vs : List ℕ = non_outputs g in
    let next = finish_sets version wanted g (map (λ v. record { vertex = v; members = [] }) vs) [] vs in
    let fits : order_fits g vs ≡ true = both _ _ (distinct_order vs (non_outputs-distinct file))
    (both _ _ (all_by (λ v. member v vs) vs (λ v inside. inside)) (all_by (λ v. member v vs) vs (λ v inside. inside))) in
    record {
      more = OrderLine vs ∷ next.more;
      end = next.end;
      leads = run_step (file_step version wanted) (AtFlow g) (sets_at g (map (λ v. record { vertex = v; members = [] }) vs) [] vs) (OrderLine vs) next.more (fitting _ _ fits) ∙ next.leads;
      over = next.over;
    }

pub finish : (version : Version) (wanted : Wanted) (st : LinesSoFar) (so_far : List Line) → IsSoFar version wanted st so_far → GoesOn (graph_files wanted) version st
finish version wanted (InGraph p) so_far so =
    let next = finish_flow version wanted p.graph so.graph in
    record { more = FlowLine ∷ next.more; end = next.end; leads = next.leads; over = next.over }
finish version wanted (AtFlow g) so_far so = finish_flow version wanted g so.graph
finish version wanted (InSets p) so_far so = finish_sets version wanted p.graph p.table p.done p.left
finish version wanted (Over g table) so_far so = record { more = []; end = Over g table; leads = refl; over = refl }
