-- What is built is the graph-like form.
use Rattle.std.proofs.Common.{◌≡◌, ◌≢◌, refl, sym, ◌∙◌, ap, ap₂, subst, ℕ, suc, zero as nought, ◌+◌, ◌<◌, ◌≤◌, Bool, false, ◌&&◌, ltb, List, [], ◌∷◌, ◌++◌, length, map, length-append, ltb-true, ltb-false, true≢false, arith}
use Rattle.std.specs.Prelude.{slice_index_or}
use Rattle.std.proofs.lemmas.List.{append_assoc, map-append, length-map, get_or_past}
use Rattle.zx_model.specs.Bits.{xor, member}
use Rattle.zx_model.proofs.BitLemmas.{xor_assoc, false-xor}
use Rattle.zx_calculus.specs.Graph.{XY, Vertex, End, Graph, ids, joined, end_vertices, WellFormed, OrderedEdges}
use Rattle.zx_calculus.specs.Adjacency.{edges_of}
use Rattle.zx_calculus.specs.Edits.{is_pair}
use Rattle.zx_calculus.specs.Splits.{spider_of_phase_zero}
use Rattle.zx_calculus.specs.Worked.{vertex}
use Rattle.zx_calculus.proofs.Ids.{by_test, by_equal, Symmetric}
use Rattle.zx_calculus.proofs.Edges.{joined_comm}
use Rattle.zx_calculus.proofs.EdgeLists.{edges_ext, joined-edges_of, OrderedEdges-edges_of}
use Rattle.zx_calculus.proofs.Splitting.{joined-absent}
use Rattle.zx_diagram.specs.declared.spider.Spider.{Spider}
use Rattle.zx_diagram.specs.Diagram.{Diagram, IsDiagram, numbers_from}
use Rattle.graph_like.specs.declared.homes.Homes.{Homes}
use Rattle.open_graph.specs.declared.side.Side.TheVariants.{Input, Output}
use Rattle.graph_like.specs.Classes.{NamesClasses, named_by}
use Rattle.graph_like.specs.LikeForm.{leaders, place, home_in, class_phase, class_vertex, joined_oddly, surplus_in, placed_in, hangs, inputs_at, outputs_at, surplus, all_surplus, adjacent, like_graph, IsLikeForm}
use Rattle.graph_like.specs.Internal.Homes.{leaders_below, IsNaming, AreHomes, AreClassHomes, home_of, AreHomesOf}
use Rattle.graph_like.specs.Internal.Building.{IsNumbered, IsJoinedBy, AddsEnds, vertices_of}
use Rattle.graph_like.proofs.ClassLemmas.{length-numbers_from, least-least, least-far}
use Rattle.graph_like.proofs.Fusion.{home-below}
use Rattle.graph_like.proofs.LikeSum.{numbers_from-append, rising-numbers_from, joined_oddly_comm, hangs_comm}
use Rattle.graph_like.proofs.Homing.{no_leader}

-- the table of homes is that of the classes
pub naming : (d : Diagram) (least : ℕ → ℕ) → NamesClasses d least → IsNaming least
naming d least c = record { low = λ u. c.smallest u u (λ test same. refl); named = least-least d least c }

place-absent : (r : ℕ) (xs : List ℕ) → member r xs ≡ false → place r xs ≡ length xs
place-absent r [] absent = refl
place-absent r (x ∷ xs) absent =
    by_equal r x
    (λ t e. absurd (true≢false (rw t at absent)))
    (λ t ne. rw t (ap (λ n. suc n) (place-absent r xs (rw t at absent))))

pub table_of : (d : Diagram) (least read : List ℕ) (table : Homes) → NamesClasses d (named_by least) → length least ≡ length d.spiders → read ≡ least →
    length table.vertices.items ≡ length read → AreHomes (named_by read) table.vertices.items table.count → AreClassHomes d table
table_of d least read table classes long e same homes = record {
  least = named_by least;
  classes = classes;
  same = same ∙ ap length e ∙ long;
  table = subst (λ xs. AreHomes (named_by xs) table.vertices.items table.count) e homes;
}

count_is : (d : Diagram) (table : Homes) → (t : AreClassHomes d table) → table.count ≡ length (leaders d t.least)
count_is d table t = t.table.counted ∙ ap (λ n. length (leaders_below t.least n)) t.same

home_low : (d : Diagram) (table : Homes) → (t : AreClassHomes d table) → (u : ℕ) → u < length d.spiders → home_of table u ≡ home_in d t.least u
home_low d table t u low =
    t.table.placed u table.count (omega (arith, low, t.same)) ∙ ap (λ n. place (t.least u) (leaders_below t.least n)) t.same

home_is : (d : Diagram) (table : Homes) → IsDiagram d → (t : AreClassHomes d table) → (u : ℕ) → home_of table u ≡ home_in d t.least u
home_is d table is t u =
    by_test (ltb u (length d.spiders))
    (λ low. home_low d table t u (ltb-true u (length d.spiders) low))
    (λ far.
    let past : length d.spiders ≤ u = ltb-false u (length d.spiders) far in
    let own : t.least u ≡ u = least-far d t.least is t.classes u past in
    get_or_past table.vertices.items u table.count (omega (arith, t.same)) ∙ count_is d table t
    ∙ sym (place-absent (t.least u) (leaders d t.least) (no_leader t.least (length d.spiders) (t.least u) (omega arith))))

pub homes_within : (d : Diagram) (table : Homes) → AreClassHomes d table → AreHomesOf (length d.spiders) table.count table
homes_within d table t = record {
  same = t.same;
  within = λ u low. omega (arith, home_low d table t u low, home-below d t.least t.classes u low, count_is d table t);
}

pub homes_wider : (d : Diagram) (spiders : List Spider) (table : Homes) (m : ℕ) → spiders ≡ d.spiders → AreHomesOf (length d.spiders) table.count table →
    table.count ≤ m → AreHomesOf (length spiders) m table
homes_wider d spiders table m e homes wide = subst (λ (ss : List Spider). AreHomesOf (length ss) m table) (sym e)
    (record { same = homes.same; within = λ u low. omega (arith, homes.within u low) })

-- vertices
map-numbers_from : (f g : ℕ → Vertex) (k n : ℕ) → ((p : ℕ) → k ≤ p → p < k + n → f p ≡ g p) → map f (numbers_from k n) ≡ map g (numbers_from k n)
map-numbers_from f g k nought same = refl
map-numbers_from f g k (suc n) same =
    ap₂ (λ v vs. v ∷ vs) (same k (omega arith) (omega arith))
    (map-numbers_from f g (suc k) n (λ p from to. same p (omega arith) (omega arith)))

pub classes_are : (d : Diagram) (home : ℕ → ℕ) (phases : List ℕ) (count : ℕ) →
    ((p o : ℕ) → p < count → slice_index_or phases p o ≡ class_phase d home p) → vertices_of phases count ≡ map (class_vertex d home) (numbers_from 0 count)
classes_are d home phases count same =
    map-numbers_from _ _ 0 count (λ p from to. ap (vertex p XY) (same p 0 (omega arith)))

hangs-append : (next : ℕ) (vs ws : List ℕ) (p q : ℕ) → hangs next (vs ++ ws) p q ≡ xor (hangs next vs p q) (hangs (next + length vs) ws p q)
hangs-append next [] ws p q = ap (λ n. hangs n ws p q) (omega arith) ∙ sym (false-xor _)
hangs-append next (v ∷ vs) ws p q =
    ap (xor (is_pair v next p q)) (hangs-append (suc next) vs ws p q ∙ ap (λ n. xor (hangs (suc next) vs p q) (hangs n ws p q)) (omega arith))
    ∙ sym (xor_assoc (is_pair v next p q) (hangs (suc next) vs p q) (hangs (next + length (v ∷ vs)) ws p q))

adjacent_comm : (d : Diagram) (home : ℕ → ℕ) (count : ℕ) → Symmetric (adjacent d home count)
adjacent_comm d home count p q =
    ap₂ xor (joined_oddly_comm d.spiders home d.edges p q) (hangs_comm count (all_surplus d home) p q)

-- edges by adjacency
edges_are : (g : Graph) (near : ℕ → ℕ → Bool) (m : ℕ) → WellFormed g → Symmetric near → ids g.vertices ≡ numbers_from 0 m →
    ((p q : ℕ) → p ≢ q → joined g.edges p q ≡ near p q) → g.edges ≡ edges_of near (numbers_from 0 m)
edges_are g near m w comm same joined_is =
    edges_ext g.edges (edges_of near (numbers_from 0 m)) w.edges.lower_first o.lower_first w.edges.rising o.rising
    (λ p q ne. within p q ne ∙ sym (joined-edges_of near (numbers_from 0 m) p q comm ne))
  where
    o : OrderedEdges (numbers_from 0 m) (edges_of near (numbers_from 0 m))
    o = OrderedEdges-edges_of near (numbers_from 0 m) (rising-numbers_from 0 m)

    none : (p q : ℕ) → member p (numbers_from 0 m) ≡ false → joined g.edges p q ≡ false
    none p q absent = joined-absent (ids g.vertices) g.edges p q w.edges.lower_there w.edges.higher_there (ap (member p) same ∙ absent)

    within : (p q : ℕ) → p ≢ q → joined g.edges p q ≡ ((member p (numbers_from 0 m) && member q (numbers_from 0 m)) && near p q)
    within p q ne =
        by_test (member p (numbers_from 0 m))
        (λ t. by_test (member q (numbers_from 0 m))
        (λ s. joined_is p q ne ∙ rw (t, s) refl)
        (λ s. joined_comm g.edges p q ∙ none q p s ∙ rw (t, s) refl))
        (λ t. none p q t ∙ rw t refl)

pub begun_classes : (d : Diagram) (home : ℕ → ℕ) (phases read : List ℕ) (count : ℕ) (g : Graph) →
    g ≡ record { vertices = vertices_of read (length read); edges = []; inputs = []; outputs = [] } → read ≡ phases → length phases ≡ count →
    ((p o : ℕ) → p < count → slice_index_or phases p o ≡ class_phase d home p) →
    g ≡ record { vertices = map (class_vertex d home) (numbers_from 0 count); edges = []; inputs = []; outputs = [] }
begun_classes d home phases read count g e same long at =
    e ∙ (λ i. record { vertices = vertices i; edges = []; inputs = []; outputs = [] })
  where
    vertices : vertices_of read (length read) ≡ map (class_vertex d home) (numbers_from 0 count)
    vertices = ap (λ xs. vertices_of xs (length xs)) same ∙ ap (vertices_of phases) long ∙ classes_are d home phases count at

-- what the steps make
pub record IsBuilt (d : Diagram) (home : ℕ → ℕ) (count : ℕ) (g h k l : Graph) : Type 0 where
  pub begun : g ≡ record { vertices = map (class_vertex d home) (numbers_from 0 count); edges = []; inputs = []; outputs = [] }
  pub joined : IsJoinedBy d.spiders home d.edges g h
  pub inputs : AddsEnds Input h (inputs_at d home) k
  pub outputs : AddsEnds Output k (outputs_at d home) l
  pub numbered : IsNumbered l

pub built_is : (d : Diagram) (home : ℕ → ℕ) (count : ℕ) (g h k l : Graph) → IsBuilt d home count g h k l → l ≡ like_graph d home count
built_is d home count g h k l b = λ i. record { vertices = vertices i; edges = edges i; inputs = inputs i; outputs = outputs i }
  where
    ins : List End
    ins = inputs_at d home

    outs : List End
    outs = outputs_at d home

    classes : List Vertex
    classes = map (class_vertex d home) (numbers_from 0 count)

    new_from : ℕ → ℕ → List Vertex
    new_from from n = map spider_of_phase_zero (numbers_from from n)

    h_vertices : h.vertices ≡ classes
    h_vertices = b.joined.vertices ∙ ap (λ (x : Graph). x.vertices) b.begun

    h_count : length h.vertices ≡ count
    h_count = ap length h_vertices ∙ (simp length-map) ∙ length-numbers_from 0 count

    h_inputs : h.inputs ≡ []
    h_inputs = b.joined.inputs ∙ ap (λ (x : Graph). x.inputs) b.begun

    k_vertices : k.vertices ≡ classes ++ new_from count (length (surplus ins))
    k_vertices = b.inputs.vertices ∙ (λ i. h_vertices i ++ new_from (h_count i) (length (surplus_from (h_inputs i) ins)))
      where
        surplus_from : List End → List End → List ℕ
        surplus_from seen ends = surplus_in (end_vertices seen) (end_vertices ends)

    k_count : length k.vertices ≡ count + length (surplus ins)
    k_count =
        ap length k_vertices ∙ length-append classes _
        ∙ ap₂ (λ m n. m + n) ((simp length-map) ∙ length-numbers_from 0 count) ((simp length-map) ∙ length-numbers_from count (length (surplus ins)))

    k_outputs : k.outputs ≡ []
    k_outputs = b.inputs.others ∙ b.joined.outputs ∙ ap (λ (x : Graph). x.outputs) b.begun

    l_vertices : l.vertices ≡ (classes ++ new_from count (length (surplus ins))) ++ new_from (count + length (surplus ins)) (length (surplus outs))
    l_vertices = b.outputs.vertices ∙ (λ i. k_vertices i ++ new_from (k_count i) (length (surplus_in (end_vertices (k_outputs i)) (end_vertices outs))))

    new_are : new_from count (length (surplus ins)) ++ new_from (count + length (surplus ins)) (length (surplus outs))
        ≡ new_from count (length (all_surplus d home))
    new_are =
        sym (map-append spider_of_phase_zero (numbers_from count (length (surplus ins))) (numbers_from (count + length (surplus ins)) (length (surplus outs))))
        ∙ ap (map spider_of_phase_zero) (numbers_from-append count (length (surplus ins)) (length (surplus outs)))
        ∙ ap (new_from count) (sym (length-append (surplus ins) (surplus outs)))

    vertices : l.vertices ≡ classes ++ new_from count (length (all_surplus d home))
    vertices = l_vertices ∙ append_assoc classes _ _ ∙ ap (λ vs. classes ++ vs) new_are

    m : ℕ
    m = count + length (all_surplus d home)

    l_count : length l.vertices ≡ m
    l_count =
        ap length vertices ∙ length-append classes _
        ∙ ap₂ (λ a c. a + c) ((simp length-map) ∙ length-numbers_from 0 count) ((simp length-map) ∙ length-numbers_from count (length (all_surplus d home)))

    h_joined : (p q : ℕ) → p ≢ q → joined h.edges p q ≡ joined_oddly d.spiders home d.edges p q
    h_joined p q ne =
        b.joined.edges p q ne ∙ ap (λ (x : Graph). xor (joined x.edges p q) (joined_oddly d.spiders home d.edges p q)) b.begun ∙ false-xor _

    l_joined : (p q : ℕ) → p ≢ q → joined l.edges p q ≡ adjacent d home count p q
    l_joined p q ne =
        b.outputs.edges p q
        ∙ (λ i. xor (b.inputs.edges p q i) (hangs (k_count i) (surplus_in (end_vertices (k_outputs i)) (end_vertices outs)) p q))
        ∙ (λ i. xor (xor (h_joined p q ne i) (hangs (h_count i) (surplus_in (end_vertices (h_inputs i)) (end_vertices ins)) p q))
        (hangs (count + length (surplus ins)) (surplus outs) p q))
        ∙ xor_assoc (joined_oddly d.spiders home d.edges p q) (hangs count (surplus ins) p q) (hangs (count + length (surplus ins)) (surplus outs) p q)
        ∙ ap (xor (joined_oddly d.spiders home d.edges p q)) (sym (hangs-append count (surplus ins) (surplus outs) p q))

    edges : l.edges ≡ edges_of (adjacent d home count) (numbers_from 0 m)
    edges = edges_are l (adjacent d home count) m b.numbered.valid (adjacent_comm d home count) (b.numbered.ids ∙ ap (numbers_from 0) l_count) l_joined

    inputs : l.inputs ≡ placed_in [] count ins
    inputs = b.outputs.others ∙ b.inputs.added ∙ (λ i. h_inputs i ++ placed_in (end_vertices (h_inputs i)) (h_count i) ins)

    outputs : l.outputs ≡ placed_in [] (count + length (surplus ins)) outs
    outputs = b.outputs.added ∙ (λ i. k_outputs i ++ placed_in (end_vertices (k_outputs i)) (k_count i) outs)

pub formed : (d : Diagram) (table : Homes) (g h k l : Graph) → IsDiagram d → AreClassHomes d table →
    IsBuilt d (home_of table) table.count g h k l → IsLikeForm d l
formed d table g h k l is t b = record {
  least = t.least;
  classes = t.classes;
  graph = built_is d (home_of table) table.count g h k l b
      ∙ ap₂ (like_graph d) (λ i u. home_is d table is t u i) (count_is d table t);
}
