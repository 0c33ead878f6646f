-- Lines that lead anywhere are the lines of what they say.
use Rattle.std.proofs.Common.{◌≡◌, ℕ, ◌+◌, ◌*◌, ◌/◌, ◌%◌, ◌<◌, ◌≤◌, suc, zero, Bool, true, false, not, eqb, ltb, leb, ◌||◌, ◌&&◌, if◌then◌else◌, List, [], ◌∷◌, ◌++◌, map, filter, length, refl, sym, ap, ap₂, ◌∙◌, subst, ltb-true, lt-ltb, eqb-true, true≢false, append_assoc, append-nil, arith, Option, None, Some}
use Rattle.std.proofs.lemmas.Bool.{leb-true}
use Rattle.std.specs.List.{list_all, range_with_len}
use Rattle.zx_model.specs.Phase.{turn}
use Rattle.zx_model.specs.Bits.{member}
use Rattle.zx_calculus.specs.Graph.{Plane, Vertex, Edge, End, Graph, OrderedEdges, OrderedEnds, Distinct, ids, end_vertices, in_order, different, edge_before, is_XY, kind_of, plane_of}
use Rattle.zx_calculus.proofs.Ids.{by_test, by_equal, eqb-self, and-left, and-right, not-true, member-here, member-there, member-append, member-filter, Distinct-rising}
use Rattle.zx_calculus.proofs.Kept.{both, all_by}
use Rattle.gflow_laws.specs.Flow.{Correction, order_of, set_of}
use Rattle.gflow_laws.proofs.Tables.{order_of-with_sets, set_of-with_sets}
use Rattle.zx_text.specs.Files.{Version, One, Two, unit, non_outputs, lines, flow_lines, vertex_line, edge_line, input_line, output_line}
use Rattle.zx_text.specs.Lines.{Line, VertexLine, EdgeLine, InputLine, OutputLine, FlowLine, OrderLine, CorrectLine, EndLine}
use Rattle.zx_text.specs.Reading.{Wanted, AnyFile, OnlyWithFlow, is_wanted, most_ends, IsFile, IsFlowOfFile}
use Rattle.zx_text.specs.Formats.{run}
use Rattle.zx_text.specs.Internal.Stepping.{Part, Sets, LinesSoFar, InGraph, AtFlow, InSets, Over, file_step, flow_step, set_step, begun, vertex_fits, edge_fits, end_fits, order_fits, set_fits, vertex_added, edge_added, input_added, output_added, ordered, no_sets, set_added, with_set}
use Rattle.zx_text.specs.Internal.Said.{graph_lines, set_lines, IsInSection, AreSetsOf, IsSoFar}
use Rattle.zx_text.proofs.PartLemmas.{all-last, order-last, in_range, ids-last, length-last}
use Rattle.zx_text.proofs.SetLemmas.{different_from, order_of-no_sets, in_all, list_all-same, none_out}
use Rattle.zx_text.proofs.RunLemmas.{only, passed, kept_by_run}

-- ---- lists
pub map-last : {A B : Type 0} (f : A → B) (xs : List A) (x : A) → map f (xs ++ x ∷ []) ≡ map f xs ++ f x ∷ []
map-last f [] x = refl
map-last f (y ∷ ys) x = ap (λ t. f y ∷ t) (map-last f ys x)

-- one more behind the first part, where the second one is empty
pub shift : {A : Type 0} (a b : List A) (x : A) → b ≡ [] → (a ++ b) ++ x ∷ [] ≡ (a ++ x ∷ []) ++ b
shift a b x none =
    subst (λ c. (a ++ c) ++ x ∷ [] ≡ (a ++ x ∷ []) ++ c) (sym none)
    (ap (λ t. t ++ x ∷ []) (append-nil a) ∙ sym (append-nil (a ++ x ∷ [])))

pub end_vertices-last : (ends : List End) (e : End) → end_vertices (ends ++ e ∷ []) ≡ end_vertices ends ++ e.vertex ∷ []
end_vertices-last [] e = refl
end_vertices-last (x ∷ xs) e = ap (λ l. x.vertex ∷ l) (end_vertices-last xs e)

-- ---- numbers of vertices
above_range : (b a n : ℕ) → b < a → list_all (ltb b) (range_with_len a n) ≡ true
above_range b a zero lt = refl
above_range b a (suc n) lt = both _ _ (lt-ltb b a lt) (above_range b (a + 1) n (omega arith))

pub rising_range : (a n : ℕ) → in_order ltb (range_with_len a n) ≡ true
rising_range a zero = refl
rising_range a (suc n) = both _ _ (above_range a (a + 1) n (omega arith)) (rising_range (a + 1) n)

pub range_below : (a n v : ℕ) → member v (range_with_len a n) ≡ true → v < a + n
range_below a zero v inside = absurd (true≢false (sym inside))
range_below a (suc n) v inside =
    by_equal v a
    (λ t e. omega arith)
    (λ f other.
    let rest = range_below (a + 1) n v (ap (λ b. b || member v (range_with_len (a + 1) n)) (sym f) ∙ inside) in
    omega (arith, rest))

pub id_of_below : {version : Version} {g : Graph} {table : Option (List Correction)} → IsFile version g table → (v : ℕ) → v < length g.vertices → member v (ids g.vertices) ≡ true
id_of_below {version} {g} file v lt = ap (member v) file.numbered ∙ in_range 0 (length g.vertices) v (omega arith) (omega (arith, lt))

pub below_of_id : {version : Version} {g : Graph} {table : Option (List Correction)} → IsFile version g table → (v : ℕ) → member v (ids g.vertices) ≡ true → v < length g.vertices
below_of_id {version} {g} file v inside =
    let lt = range_below 0 (length g.vertices) v (ap (member v) (sym file.numbered) ∙ inside) in
    omega (arith, lt)

-- ---- the vertices without an output
filter-distinct : (p : ℕ → Bool) (xs : List ℕ) → Distinct xs → Distinct (filter p xs)
filter-distinct p [] differ = tt
filter-distinct p (x ∷ xs) differ =
    by_test (p x)
    (λ t. rw t (member-filter p xs x ∙ ap (λ b. b && p x) differ.0, filter-distinct p xs differ.1))
    (λ f. rw f (filter-distinct p xs differ.1))

pub non_outputs-distinct : {version : Version} {g : Graph} {table : Option (List Correction)} → IsFile version g table → Distinct (non_outputs g)
non_outputs-distinct {version} {g} file =
    filter-distinct (λ v. not (member v (end_vertices g.outputs))) (ids g.vertices) (Distinct-rising (ids g.vertices) file.graph.vertices_rising)

pub fresh_next : (xs : List ℕ) (v : ℕ) (ys : List ℕ) → Distinct (xs ++ v ∷ ys) → member v xs ≡ false
fresh_next [] v ys differ = refl
fresh_next (x ∷ xs) v ys differ =
    by_equal v x
    (λ t e. absurd (true≢false (sym (ap (λ w. member w (xs ++ v ∷ ys)) (sym e) ∙ member-append v xs (v ∷ ys) ∙ last (member v xs) _ (member-here v ys)) ∙ differ.0)))
    (λ f other. rw f (fresh_next xs v ys differ.1))
  where
    last : (a b : Bool) → b ≡ true → (a || b) ≡ true
    last true b e = refl
    last false b e = e

-- ---- the lines of a graph with one more vertex, edge or end
pub undone : (version : Version) (phase : ℕ) → (phase * unit version) / unit version ≡ phase
undone One phase = omega arith
undone Two phase = omega arith

pub whole_units : (version : Version) (phase : ℕ) → eqb ((phase * unit version) % unit version) 0 ≡ true
whole_units One phase = let e : (phase * 2) % 2 ≡ 0 = omega arith in rw e refl
whole_units Two phase = let e : (phase * 1) % 1 ≡ 0 = omega arith in rw e refl

said_vertex : (version : Version) (g : Graph) (v : Vertex) → g.edges ≡ [] → g.inputs ≡ [] → g.outputs ≡ []
    → graph_lines version g ++ vertex_line version v ∷ [] ≡ graph_lines version (record g { vertices = g.vertices ++ v ∷ [] })
said_vertex version g v no_edges no_inputs no_outputs =
    let behind : List Line = map edge_line g.edges ++ (map input_line g.inputs ++ map output_line g.outputs) in
    let none : behind ≡ [] = ap₂ (λ es t. map edge_line es ++ t) no_edges (ap₂ (λ is os. map input_line is ++ map output_line os) no_inputs no_outputs) in
    shift (map (vertex_line version) g.vertices) behind (vertex_line version v) none
    ∙ ap (λ t. t ++ behind) (sym (map-last (vertex_line version) g.vertices v))

said_edge : (version : Version) (g : Graph) (e : Edge) → g.inputs ≡ [] → g.outputs ≡ []
    → graph_lines version g ++ edge_line e ∷ [] ≡ graph_lines version (record g { edges = g.edges ++ e ∷ [] })
said_edge version g e no_inputs no_outputs =
    let behind : List Line = map input_line g.inputs ++ map output_line g.outputs in
    let none : behind ≡ [] = ap₂ (λ is os. map input_line is ++ map output_line os) no_inputs no_outputs in
    let front : List Line = map (vertex_line version) g.vertices in
    append_assoc front (map edge_line g.edges ++ behind) (edge_line e ∷ [])
    ∙ ap (λ t. front ++ t) (shift (map edge_line g.edges) behind (edge_line e) none ∙ ap (λ t. t ++ behind) (sym (map-last edge_line g.edges e)))

said_input : (version : Version) (g : Graph) (e : End) → g.outputs ≡ []
    → graph_lines version g ++ input_line e ∷ [] ≡ graph_lines version (record g { inputs = g.inputs ++ e ∷ [] })
said_input version g e no_outputs =
    let behind : List Line = map output_line g.outputs in
    let none : behind ≡ [] = ap (map output_line) no_outputs in
    let front : List Line = map (vertex_line version) g.vertices in
    let middle : List Line = map edge_line g.edges in
    append_assoc front (middle ++ (map input_line g.inputs ++ behind)) (input_line e ∷ [])
    ∙ ap (λ t. front ++ t) (append_assoc middle (map input_line g.inputs ++ behind) (input_line e ∷ [])
    ∙ ap (λ t. middle ++ t) (shift (map input_line g.inputs) behind (input_line e) none ∙ ap (λ t. t ++ behind) (sym (map-last input_line g.inputs e))))

said_output : (version : Version) (g : Graph) (e : End)
    → graph_lines version g ++ output_line e ∷ [] ≡ graph_lines version (record g { outputs = g.outputs ++ e ∷ [] })
said_output version g e =
    let front : List Line = map (vertex_line version) g.vertices in
    let middle : List Line = map edge_line g.edges in
    let before : List Line = map input_line g.inputs in
    append_assoc front (middle ++ (before ++ map output_line g.outputs)) (output_line e ∷ [])
    ∙ ap (λ t. front ++ t) (append_assoc middle (before ++ map output_line g.outputs) (output_line e ∷ [])
    ∙ ap (λ t. middle ++ t) (append_assoc before (map output_line g.outputs) (output_line e ∷ [])
    ∙ ap (λ t. before ++ t) (sym (map-last output_line g.outputs e))))

-- the lines of a file are those of its graph, then those of its flow, then the end
pub lines-graph : (version : Version) (g : Graph) (table : Option (List Correction)) → lines version g table ≡ graph_lines version g ++ (flow_lines g table ++ EndLine ∷ [])
lines-graph version g table =
    let a : List Line = map (vertex_line version) g.vertices in
    let b : List Line = map edge_line g.edges in
    let c : List Line = map input_line g.inputs in
    let d : List Line = map output_line g.outputs in
    let rest : List Line = flow_lines g table ++ EndLine ∷ [] in
    sym (append_assoc a (b ++ (c ++ d)) rest
    ∙ ap (λ t. a ++ t) (append_assoc b (c ++ d) rest ∙ ap (λ t. b ++ t) (append_assoc c d rest)))

-- ---- a graph of a file stays one
no_edges : (vertices : List ℕ) (edges : List Edge) → edges ≡ [] → OrderedEdges vertices edges
no_edges vertices edges none = subst (OrderedEdges vertices) (sym none) (record { lower_first = refl; rising = refl; lower_there = refl; higher_there = refl })

no_ends : (vertices : List Vertex) (ends : List End) → ends ≡ [] → OrderedEnds vertices ends
no_ends vertices ends none = subst (OrderedEnds vertices) (sym none) (record { one_each = refl; there = refl; at_XY = refl })

file_vertex : {version : Version} {g : Graph} → IsFile version g None → (v : Vertex) → v.id ≡ length g.vertices → v.kind.phase < turn
    → eqb (v.kind.phase % unit version) 0 ≡ true → g.edges ≡ [] → g.inputs ≡ [] → g.outputs ≡ []
    → IsFile version (record g { vertices = g.vertices ++ v ∷ [] }) None
file_vertex {version} {g} file v next lt units none_e none_i none_o =
    let numbered : ids (g.vertices ++ v ∷ []) ≡ range_with_len 0 (length (g.vertices ++ v ∷ [])) = ids-last 0 g.vertices v file.numbered (omega (arith, next)) in
    record {
      graph = record {
        vertices_rising = ap (in_order ltb) numbered ∙ rising_range 0 (length (g.vertices ++ v ∷ []));
        phases_below_a_turn = all-last (λ u. ltb u.kind.phase turn) g.vertices v file.graph.phases_below_a_turn (lt-ltb v.kind.phase turn lt);
        edges = no_edges (ids (g.vertices ++ v ∷ [])) g.edges none_e;
        inputs = no_ends (g.vertices ++ v ∷ []) g.inputs none_i;
        outputs = no_ends (g.vertices ++ v ∷ []) g.outputs none_o;
      };
      numbered = numbered;
      phases = all-last (λ u. eqb (u.kind.phase % unit version) 0) g.vertices v file.phases units;
      few_inputs = file.few_inputs;
      few_outputs = file.few_outputs;
      flow = tt;
    }

file_edge : {version : Version} {g : Graph} → IsFile version g None → (e : Edge) → e.lower < e.higher → e.higher < length g.vertices
    → list_all (λ d. edge_before d e) g.edges ≡ true → IsFile version (record g { edges = g.edges ++ e ∷ [] }) None
file_edge {version} {g} file e first within before =
    record {
      graph = record {
        vertices_rising = file.graph.vertices_rising;
        phases_below_a_turn = file.graph.phases_below_a_turn;
        edges = record {
          lower_first = all-last (λ d. ltb d.lower d.higher) g.edges e file.graph.edges.lower_first (lt-ltb e.lower e.higher first);
          rising = order-last edge_before g.edges e file.graph.edges.rising before;
          lower_there = all-last (λ d. member d.lower (ids g.vertices)) g.edges e file.graph.edges.lower_there (id_of_below file e.lower (omega arith));
          higher_there = all-last (λ d. member d.higher (ids g.vertices)) g.edges e file.graph.edges.higher_there (id_of_below file e.higher within);
        };
        inputs = file.graph.inputs;
        outputs = file.graph.outputs;
      };
      numbered = file.numbered;
      phases = file.phases;
      few_inputs = file.few_inputs;
      few_outputs = file.few_outputs;
      flow = tt;
    }

ends_more : {vertices : List Vertex} {ends : List End} → OrderedEnds vertices ends → (e : End) → member e.vertex (ids vertices) ≡ true
    → is_XY (kind_of vertices e.vertex).plane ≡ true → member e.vertex (end_vertices ends) ≡ false → OrderedEnds vertices (ends ++ e ∷ [])
ends_more {vertices} {ends} are e live flat absent =
    let at : end_vertices (ends ++ e ∷ []) ≡ end_vertices ends ++ e.vertex ∷ [] = end_vertices-last ends e in
    record {
      one_each = ap (in_order different) at ∙ order-last different (end_vertices ends) e.vertex are.one_each (different_from e.vertex (end_vertices ends) absent);
      there = ap (list_all (λ u. member u (ids vertices))) at ∙ all-last (λ u. member u (ids vertices)) (end_vertices ends) e.vertex are.there live;
      at_XY = ap (list_all (λ u. is_XY (kind_of vertices u).plane)) at ∙ all-last (λ u. is_XY (kind_of vertices u).plane) (end_vertices ends) e.vertex are.at_XY flat;
    }

-- what a test of an end says
pub record IsEndPlace (g : Graph) (ends : List End) (v : ℕ) : Type 0 where
  pub few : length ends < most_ends
  pub live : v < length g.vertices
  pub flat : is_XY (plane_of g v) ≡ true
  pub absent : member v (end_vertices ends) ≡ false

pub end_place : (g : Graph) (ends : List End) (v : ℕ) → end_fits g ends v ≡ true → IsEndPlace g ends v
end_place g ends v fits =
    let inside = and-right (ltb (length ends) most_ends) _ fits in
    let others = and-right (ltb v (length g.vertices)) _ inside in
    record {
      few = ltb-true (length ends) most_ends (and-left _ _ fits);
      live = ltb-true v (length g.vertices) (and-left _ _ inside);
      flat = and-left _ _ others;
      absent = not-true _ (and-right (is_XY (plane_of g v)) _ others);
    }

-- a file with other ends
file_ends : {version : Version} {g : Graph} → IsFile version g None → (ins outs : List End) → OrderedEnds g.vertices ins → OrderedEnds g.vertices outs
    → (length ins ≤ most_ends) × (length outs ≤ most_ends) → IsFile version (record g { inputs = ins; outputs = outs }) None
file_ends file ins outs inputs outputs few =
    record {
      graph = record {
        vertices_rising = file.graph.vertices_rising;
        phases_below_a_turn = file.graph.phases_below_a_turn;
        edges = file.graph.edges;
        inputs = inputs;
        outputs = outputs;
      };
      numbered = file.numbered;
      phases = file.phases;
      few_inputs = few.0;
      few_outputs = few.1;
      flow = tt;
    }

file_input : {version : Version} {g : Graph} → IsFile version g None → (e : End) → IsEndPlace g g.inputs e.vertex
    → IsFile version (record g { inputs = g.inputs ++ e ∷ [] }) None
file_input {version} {g} file e place =
    file_ends file (g.inputs ++ e ∷ []) g.outputs (ends_more file.graph.inputs e (id_of_below file e.vertex place.live) place.flat place.absent)
    file.graph.outputs ((let few = place.few in omega (arith, length-last g.inputs e, few)), file.few_outputs)

file_output : {version : Version} {g : Graph} → IsFile version g None → (e : End) → IsEndPlace g g.outputs e.vertex
    → IsFile version (record g { outputs = g.outputs ++ e ∷ [] }) None
file_output {version} {g} file e place =
    file_ends file g.inputs (g.outputs ++ e ∷ []) file.graph.inputs
    (ends_more file.graph.outputs e (id_of_below file e.vertex place.live) place.flat place.absent)
    (file.few_inputs, (let few = place.few in omega (arith, length-last g.outputs e, few)))

-- ---- one line more of a graph
abbrev More : Version → Wanted → LinesSoFar → List Line → Line → Type 0
More version wanted st so_far l = IsSoFar version wanted st (so_far ++ l ∷ [])

more_vertex : {version : Version} {wanted : Wanted} {p : Part} {so_far : List Line} → IsSoFar version wanted (InGraph p) so_far
    → (i : ℕ) (plane : Plane) (phase : ℕ) → vertex_fits version p i phase ≡ true → More version wanted (InGraph (vertex_added version p i plane phase)) so_far (VertexLine i plane phase)
more_vertex {version} {wanted} {p} {so_far} so i plane phase fits =
    let stage : IsInSection p = so.stage in
    let first : p.section ≤ 0 = leb-true p.section 0 (and-left _ _ fits) in
    let others = and-right (leb p.section 0) _ fits in
    let next : i ≡ length p.graph.vertices = eqb-true i (length p.graph.vertices) (and-left _ _ others) in
    let lt : phase * unit version < turn = ltb-true (phase * unit version) turn (and-right (eqb i (length p.graph.vertices)) _ others) in
    let v : Vertex = record { id = i; kind = record { plane = plane; phase = phase * unit version } } in
    let none_e = stage.edges first in
    let none_i = stage.inputs (omega arith) in
    let none_o = stage.outputs (omega arith) in
    record {
      lines_said = ap (λ ls. ls ++ VertexLine i plane phase ∷ []) so.lines_said
          ∙ ap (λ k. graph_lines version p.graph ++ VertexLine i plane k ∷ []) (sym (undone version phase))
          ∙ said_vertex version p.graph v none_e none_i none_o;
      graph = file_vertex so.graph v next lt (whole_units version phase) none_e none_i none_o;
      stage = record { edges = stage.edges; inputs = stage.inputs; outputs = stage.outputs };
    }

more_edge : {version : Version} {wanted : Wanted} {p : Part} {so_far : List Line} → IsSoFar version wanted (InGraph p) so_far
    → (a b : ℕ) → edge_fits p a b ≡ true → More version wanted (InGraph (edge_added p a b)) so_far (EdgeLine a b)
more_edge {version} {wanted} {p} {so_far} so a b fits =
    let stage : IsInSection p = so.stage in
    let section : p.section ≤ 1 = leb-true p.section 1 (and-left _ _ fits) in
    let others = and-right (leb p.section 1) _ fits in
    let second = and-right (ltb a b) _ others in
    let e : Edge = record { lower = a; higher = b } in
    let none_i = stage.inputs section in
    let none_o = stage.outputs (omega arith) in
    record {
      lines_said = ap (λ ls. ls ++ EdgeLine a b ∷ []) so.lines_said ∙ said_edge version p.graph e none_i none_o;
      graph = file_edge so.graph e (ltb-true a b (and-left _ _ others)) (ltb-true b (length p.graph.vertices) (and-left _ _ second)) (and-right (ltb b (length p.graph.vertices)) _ second);
      stage = record { edges = λ le. absurd (omega (arith, le)); inputs = λ le. none_i; outputs = λ le. none_o };
    }

more_input : {version : Version} {wanted : Wanted} {p : Part} {so_far : List Line} → IsSoFar version wanted (InGraph p) so_far
    → (v : ℕ) (hadamard : Bool) → (leb p.section 2 && end_fits p.graph p.graph.inputs v) ≡ true → More version wanted (InGraph (input_added p v hadamard)) so_far (InputLine v hadamard)
more_input {version} {wanted} {p} {so_far} so v hadamard fits =
    let stage : IsInSection p = so.stage in
    let section : p.section ≤ 2 = leb-true p.section 2 (and-left _ _ fits) in
    let place = end_place p.graph p.graph.inputs v (and-right (leb p.section 2) _ fits) in
    let e : End = record { vertex = v; hadamard = hadamard } in
    let none_o = stage.outputs section in
    record {
      lines_said = ap (λ ls. ls ++ InputLine v hadamard ∷ []) so.lines_said ∙ said_input version p.graph e none_o;
      graph = file_input so.graph e place;
      stage = record { edges = λ le. absurd (omega (arith, le)); inputs = λ le. absurd (omega (arith, le)); outputs = λ le. none_o };
    }

more_output : {version : Version} {wanted : Wanted} {p : Part} {so_far : List Line} → IsSoFar version wanted (InGraph p) so_far
    → (v : ℕ) (hadamard : Bool) → (leb p.section 3 && end_fits p.graph p.graph.outputs v) ≡ true → More version wanted (InGraph (output_added p v hadamard)) so_far (OutputLine v hadamard)
more_output {version} {wanted} {p} {so_far} so v hadamard fits =
    let place = end_place p.graph p.graph.outputs v (and-right (leb p.section 3) _ fits) in
    let e : End = record { vertex = v; hadamard = hadamard } in
    record {
      lines_said = ap (λ ls. ls ++ OutputLine v hadamard ∷ []) so.lines_said ∙ said_output version p.graph e;
      graph = file_output so.graph e place;
      stage = record { edges = λ le. absurd (omega (arith, le)); inputs = λ le. absurd (omega (arith, le)); outputs = λ le. absurd (omega (arith, le)) };
    }

-- ---- and of a flow
more_order : {version : Version} {wanted : Wanted} {g : Graph} {so_far : List Line} → IsSoFar version wanted (AtFlow g) so_far
    → (order : List ℕ) → order_fits g order ≡ true → More version wanted (InSets (ordered g order)) so_far (OrderLine order)
more_order {version} {wanted} {g} {so_far} so order fits =
    let same : order_of (no_sets order) ≡ order = order_of-no_sets order in
    record {
      lines_said = ap (λ ls. ls ++ OrderLine order ∷ []) so.lines_said
          ∙ append_assoc (graph_lines version g) (FlowLine ∷ []) (OrderLine order ∷ [])
          ∙ ap (λ o. graph_lines version g ++ FlowLine ∷ OrderLine o ∷ []) (sym same);
      graph = so.graph;
      stage = record { all = refl; order = ap (order_fits g) same ∙ fits; sets = refl };
    }

same_lines : (t u : List Correction) (vs : List ℕ) → ((v : ℕ) → member v vs ≡ true → set_of t v ≡ set_of u v) → set_lines t vs ≡ set_lines u vs
same_lines t u [] same = refl
same_lines t u (v ∷ vs) same =
    ap₂ (λ s ls. CorrectLine v s ∷ ls) (same v (member-here v vs)) (same_lines t u vs (λ w inside. same w (member-there w v vs inside)))

pub last_true : (a b : Bool) → b ≡ true → (a || b) ≡ true
last_true true b e = refl
last_true false b e = e

first_true : (a b : Bool) → a ≡ true → (a || b) ≡ true
first_true true b e = refl
first_true false b e = absurd (cc)

more_set : {version : Version} {wanted : Wanted} {p : Sets} {so_far : List Line} → IsSoFar version wanted (InSets p) so_far
    → (v : ℕ) (left members : List ℕ) → p.left ≡ v ∷ left → set_fits p.graph members ≡ true
    → More version wanted (InSets (set_added p left v members)) so_far (CorrectLine v members)
more_set {version} {wanted} {p} {so_far} so v left members next fits =
    record {
      lines_said = ap (λ ls. ls ++ CorrectLine v members ∷ []) so.lines_said
          ∙ append_assoc (graph_lines version p.graph) (FlowLine ∷ OrderLine (order_of p.table) ∷ set_lines p.table p.done) (CorrectLine v members ∷ [])
          ∙ ap₂ (λ o ls. graph_lines version p.graph ++ FlowLine ∷ OrderLine o ∷ ls) (sym same_order) (sym more_lines);
      graph = so.graph;
      stage = record {
        all = whole ∙ sym (append_assoc p.done (v ∷ []) left);
        order = ap (order_fits p.graph) same_order ∙ stage.order;
        sets = all-last (λ u. set_fits p.graph (set_of new u)) p.done v
            (all_by (λ u. set_fits p.graph (set_of new u)) p.done (λ u inside. ap (set_fits p.graph) (kept u inside) ∙ in_all (λ w. set_fits p.graph (set_of p.table w)) p.done u stage.sets inside))
            (ap (set_fits p.graph) here ∙ fits);
      };
    }
  where
    stage : AreSetsOf p
    stage = so.stage

    change : ℕ → List ℕ → List ℕ
    change = λ u set. if eqb u v then members else set

    new : List Correction
    new = with_set v members p.table

    whole : non_outputs p.graph ≡ p.done ++ v ∷ left
    whole = stage.all ∙ ap (λ l. p.done ++ l) next

    in_order_too : (u : ℕ) → member u (non_outputs p.graph) ≡ true → member u (order_of p.table) ≡ true
    in_order_too u inside =
        in_all (λ w. member w (order_of p.table)) (non_outputs p.graph) u
        (and-right (list_all (λ w. member w (non_outputs p.graph)) (order_of p.table)) _ (and-right (in_order different (order_of p.table)) _ stage.order)) inside

    same_order : order_of new ≡ order_of p.table
    same_order = order_of-with_sets change p.table

    fresh : member v p.done ≡ false
    fresh = fresh_next p.done v left (subst Distinct whole (non_outputs-distinct so.graph))

    there : member v (non_outputs p.graph) ≡ true
    there = ap (member v) whole ∙ member-append v p.done (v ∷ left) ∙ last_true (member v p.done) _ (member-here v left)

    here : set_of new v ≡ members
    here = set_of-with_sets change p.table v (in_order_too v there) ∙ ap (λ b. if b then members else set_of p.table v) (eqb-self v)

    done_there : (u : ℕ) → member u p.done ≡ true → member u (non_outputs p.graph) ≡ true
    done_there u inside = ap (member u) whole ∙ member-append u p.done (v ∷ left) ∙ first_true (member u p.done) _ inside

    kept : (u : ℕ) → member u p.done ≡ true → set_of new u ≡ set_of p.table u
    kept u inside =
        set_of-with_sets change p.table u (in_order_too u (done_there u inside))
        ∙ by_equal u v
        (λ t e. absurd (true≢false (sym inside ∙ ap (λ w. member w p.done) e ∙ fresh)))
        (λ f other. ap (λ b. if b then members else set_of p.table u) f)

    more_lines : set_lines new (p.done ++ v ∷ []) ≡ set_lines p.table p.done ++ CorrectLine v members ∷ []
    more_lines =
        map-last (λ u. CorrectLine u (set_of new u)) p.done v
        ∙ ap₂ (λ ls s. ls ++ CorrectLine v s ∷ []) (same_lines new p.table p.done kept) here

-- ---- the end
pub all_or : (p q : ℕ → Bool) (xs : List ℕ) → list_all p (filter (λ v. not (q v)) xs) ≡ true → list_all (λ v. q v || p v) xs ≡ true
all_or p q [] all = refl
all_or p q (x ∷ xs) all =
    by_test (q x)
    (λ t. let rest : list_all p (filter (λ v. not (q v)) xs) ≡ true = rw t at all in rw t (all_or p q xs rest))
    (λ f. let both_of : (p x && list_all p (filter (λ v. not (q v)) xs)) ≡ true = rw f at all in
    rw f (both _ _ (and-left _ _ both_of) (all_or p q xs (and-right _ _ both_of))))

flow_whole : {version : Version} {wanted : Wanted} {p : Sets} {so_far : List Line} → IsSoFar version wanted (InSets p) so_far → non_outputs p.graph ≡ p.done → IsFlowOfFile p.graph p.table
flow_whole {version} {wanted} {p} {so_far} so whole =
    record {
      order = record {
        each_once = and-left _ _ stage.order;
        no_others = list_all-same (λ v. sym (none_out p.graph v)) (order_of p.table) ∙ and-left _ _ others;
        all_there = all_or (λ v. member v (order_of p.table)) (λ v. member v (end_vertices p.graph.outputs)) (ids p.graph.vertices)
            (and-right (list_all (λ w. member w (non_outputs p.graph)) (order_of p.table)) _ others);
        vertices = all_by (λ v. list_all (λ w. member w (ids p.graph.vertices)) (set_of p.table v)) (order_of p.table)
            (λ v inside. within (set_of p.table v) (and-right (in_order ltb (set_of p.table v)) _ (fits v inside)));
      };
      rising = all_by (λ v. in_order ltb (set_of p.table v)) (order_of p.table) (λ v inside. and-left _ _ (fits v inside));
    }
  where
    stage : AreSetsOf p
    stage = so.stage

    others : (list_all (λ w. member w (non_outputs p.graph)) (order_of p.table) && list_all (λ w. member w (order_of p.table)) (non_outputs p.graph)) ≡ true
    others = and-right (in_order different (order_of p.table)) _ stage.order

    fits : (v : ℕ) → member v (order_of p.table) ≡ true → set_fits p.graph (set_of p.table v) ≡ true
    fits v inside =
        in_all (λ w. set_fits p.graph (set_of p.table w)) p.done v stage.sets
        (ap (member v) (sym whole) ∙ in_all (λ w. member w (non_outputs p.graph)) (order_of p.table) v (and-left _ _ others) inside)

    within : (ws : List ℕ) → list_all (λ w. ltb w (length p.graph.vertices)) ws ≡ true → list_all (λ w. member w (ids p.graph.vertices)) ws ≡ true
    within [] all = refl
    within (w ∷ ws) all =
        both _ _ (id_of_below so.graph w (ltb-true w (length p.graph.vertices) (and-left _ _ all))) (within ws (and-right _ _ all))

more_end : {version : Version} {wanted : Wanted} {p : Part} {so_far : List Line} → IsSoFar version wanted (InGraph p) so_far
    → is_wanted wanted None ≡ true → More version wanted (Over p.graph None) so_far EndLine
more_end {version} {wanted} {p} {so_far} so fits = record {
  lines_said = ap (λ ls. ls ++ EndLine ∷ []) so.lines_said ∙ sym (lines-graph version p.graph None);
  graph = so.graph;
  stage = (tt, fits);
}

wanted_some : (wanted : Wanted) (table : List Correction) → is_wanted wanted (Some table) ≡ true
wanted_some AnyFile table = refl
wanted_some OnlyWithFlow table = refl

more_end_of_sets : {version : Version} {wanted : Wanted} {p : Sets} {so_far : List Line} → IsSoFar version wanted (InSets p) so_far
    → p.left ≡ [] → More version wanted (Over p.graph (Some p.table)) so_far EndLine
more_end_of_sets {version} {wanted} {p} {so_far} so none =
    let stage : AreSetsOf p = so.stage in
    let whole : non_outputs p.graph ≡ p.done = stage.all ∙ ap (λ l. p.done ++ l) none ∙ append-nil p.done in
    record {
      lines_said = ap (λ ls. ls ++ EndLine ∷ []) so.lines_said
          ∙ append_assoc (graph_lines version p.graph) (FlowLine ∷ OrderLine (order_of p.table) ∷ set_lines p.table p.done) (EndLine ∷ [])
          ∙ ap (λ vs. graph_lines version p.graph ++ ((FlowLine ∷ OrderLine (order_of p.table) ∷ set_lines p.table vs) ++ EndLine ∷ [])) (sym whole)
          ∙ sym (lines-graph version p.graph (Some p.table));
      graph = so.graph;
      stage = (flow_whole so whole, wanted_some wanted p.table);
    }

-- ---- each line that leads anywhere
pub so_far_more : (version : Version) (wanted : Wanted) (st : LinesSoFar) (l : Line) (next : LinesSoFar) (so_far : List Line) → IsSoFar version wanted st so_far
    → file_step version wanted st l ≡ Some next → IsSoFar version wanted next (so_far ++ l ∷ [])
so_far_more version wanted (InGraph p) (VertexLine i plane phase) next so_far so e = subst (λ s. More version wanted s so_far (VertexLine i plane phase)) (only _ _ next e) (more_vertex so i plane phase (passed _ _ _ e))
so_far_more version wanted (InGraph p) (EdgeLine a b) next so_far so e = subst (λ s. More version wanted s so_far (EdgeLine a b)) (only _ _ next e) (more_edge so a b (passed _ _ _ e))
so_far_more version wanted (InGraph p) (InputLine v hadamard) next so_far so e = subst (λ s. More version wanted s so_far (InputLine v hadamard)) (only _ _ next e) (more_input so v hadamard (passed _ _ _ e))
so_far_more version wanted (InGraph p) (OutputLine v hadamard) next so_far so e = subst (λ s. More version wanted s so_far (OutputLine v hadamard)) (only _ _ next e) (more_output so v hadamard (passed _ _ _ e))
so_far_more version wanted (InGraph p) FlowLine next so_far so e =
    subst (λ s. More version wanted s so_far FlowLine) (only true (AtFlow p.graph) next e)
    (record { lines_said = ap (λ ls. ls ++ FlowLine ∷ []) so.lines_said; graph = so.graph; stage = tt })
so_far_more version wanted (InGraph p) (OrderLine order) next so_far so e = absurd (cc)
so_far_more version wanted (InGraph p) (CorrectLine v members) next so_far so e = absurd (cc)
so_far_more version wanted (InGraph p) EndLine next so_far so e = subst (λ s. More version wanted s so_far EndLine) (only _ _ next e) (more_end so (passed _ _ _ e))
so_far_more version wanted (AtFlow g) l next so_far so e = flow_more l e
  where
    flow_more : (l : Line) → flow_step g l ≡ Some next → IsSoFar version wanted next (so_far ++ l ∷ [])
    flow_more (OrderLine order) e = subst (λ s. More version wanted s so_far (OrderLine order)) (only _ _ next e) (more_order so order (passed _ _ _ e))
    flow_more l e = absurd (cc)
so_far_more version wanted (InSets p) l next so_far so e = set_more p.left l refl e
  where
    set_more : (left : List ℕ) (l : Line) → p.left ≡ left → set_step p left l ≡ Some next → IsSoFar version wanted next (so_far ++ l ∷ [])
    set_more [] EndLine at e = subst (λ s. More version wanted s so_far EndLine) (only true (Over p.graph (Some p.table)) next e) (more_end_of_sets so at)
    set_more (v ∷ left) (CorrectLine u members) at e =
        let fits = passed _ _ _ e in
        let same : u ≡ v = eqb-true u v (and-left _ _ fits) in
        subst (λ s. More version wanted s so_far (CorrectLine u members)) (only _ _ next e)
        (more_set so u left members (at ∙ ap (λ w. w ∷ left) (sym same)) (and-right (eqb u v) _ fits))
    set_more left l at e = absurd (cc)
so_far_more version wanted (Over g table) l next so_far so e = absurd (cc)

pub so_far_run : (version : Version) (wanted : Wanted) (st : LinesSoFar) (ls : List Line) (end : LinesSoFar) (so_far : List Line) → IsSoFar version wanted st so_far
    → run (file_step version wanted) (Some st) ls ≡ Some end → IsSoFar version wanted end (so_far ++ ls)
so_far_run version wanted = kept_by_run (file_step version wanted) (IsSoFar version wanted) (so_far_more version wanted)

pub so_far_begun : (version : Version) (wanted : Wanted) → IsSoFar version wanted (InGraph begun) []
so_far_begun version wanted = record {
  lines_said = refl;
  graph = record {
    graph = record {
      vertices_rising = refl;
      phases_below_a_turn = refl;
      edges = record { lower_first = refl; rising = refl; lower_there = refl; higher_there = refl };
      inputs = record { one_each = refl; there = refl; at_XY = refl };
      outputs = record { one_each = refl; there = refl; at_XY = refl };
    };
    numbered = refl;
    phases = refl;
    few_inputs = omega arith;
    few_outputs = omega arith;
    flow = tt;
  };
  stage = record { edges = λ le. refl; inputs = λ le. refl; outputs = λ le. refl };
}

-- lines that lead to the end are all lines of a file
pub sound : (version : Version) (wanted : Wanted) (ls : List Line) (g : Graph) (table : Option (List Correction)) → run (file_step version wanted) (Some (InGraph begun)) ls ≡ Some (Over g table)
    → (ls ≡ lines version g table) × (IsFile version g table × (is_wanted wanted table ≡ true))
sound version wanted ls g table e =
    let so : IsSoFar version wanted (Over g table) ls = so_far_run version wanted (InGraph begun) ls (Over g table) [] (so_far_begun version wanted) e in (
      so.lines_said,
      (
        record {
          graph = so.graph.graph;
          numbered = so.graph.numbered;
          phases = so.graph.phases;
          few_inputs = so.graph.few_inputs;
          few_outputs = so.graph.few_outputs;
          flow = so.stage.0;
        },
        so.stage.1,
      ),
    )
