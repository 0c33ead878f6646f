-- The lines that are written are those of the numbered graph.
use Rattle.std.proofs.Common.{◌≡◌, ℕ, ◌/◌, ◌<◌, ◌≤◌, Bool, true, false, not, cond, ◌||◌, ◌&&◌, eqb, ltb, List, [], ◌∷◌, ◌++◌, filter, map, refl, sym, ap, ap₂, ◌∙◌, true≢false, eq-eqb, ne_eqb, ltb-true, ltb-false, lt-ltb, arith, append_assoc, append-nil, codes, decimal, Option, None, Some, IfSome}
use Rattle.std.specs.List.{list_all, flat_map, join_with_byte}
use Rattle.std.specs.Option.{option_map, ForSome}
use Rattle.std.proofs.lemmas.Grind.{flat_map-append}
use Rattle.std.proofs.lemmas.List.Folds.{flat_map-map}
use Rattle.std.proofs.lemmas.List.Elements.{filter-append}
use Rattle.zx_model.specs.Bits.{member}
use Rattle.zx_calculus.specs.Graph.{Vertex, Edge, End, Kind, Graph, WellFormed, IsVertex, ids, kind_of, joined, neighbours, end_vertices, in_order}
use Rattle.zx_calculus.specs.Adjacency.{edges_from, edges_of}
use Rattle.zx_calculus.proofs.Ids.{and-left, and-right, by_test, by_equal, eqb-self, member-here, member-there, member-append}
use Rattle.zx_calculus.proofs.Edges.{joined_comm}
use Rattle.zx_calculus.proofs.EdgeLists.{joined-edges_of, OrderedEdges-edges_of, edges_ext}
use Rattle.zx_calculus.proofs.Kept.{both}
use Rattle.zx_calculus.proofs.Splitting.{all_at}
use Rattle.zx_calculus.proofs.Results.{restrict}
use Rattle.gflow_laws.specs.Flow.{Correction, IsTableOf, order_of, set_of}
use Rattle.gflow_laws.specs.Seen.{seen}
use Rattle.zx_text.specs.Lines.{Line, CorrectLine, EdgeLine, VertexLine, OrderLine, EndLine, spelled_line, plane_name, mark}
use Rattle.zx_text.specs.Files.{Two, spelled, lines, flow_lines, vertex_line, edge_line, input_line, output_line}
use Rattle.zx_text.specs.Numbered.{numbered, numbered_table, numbered_flow, number_in, vertex_with, edge_with, end_with, correction_with}
use Rattle.zx_text.specs.Internal.Writing.{part, vertex_text, edge_text, end_text, correction_text, set_text, flow_text, lent_text}

-- ---- lines
line_of_three : (w a b : List ℕ) → join_with_byte 32 (w ∷ a ∷ b ∷ []) ++ codes "\n" ≡ w ++ (codes " " ++ a) ++ codes " " ++ b ++ codes "\n"
line_of_three w a b = simp append_assoc refl

line_of_four : (w a p b : List ℕ) → join_with_byte 32 (w ∷ a ∷ p ∷ b ∷ []) ++ codes "\n" ≡ w ++ (codes " " ++ a) ++ codes " " ++ p ++ (codes " " ++ b) ++ codes "\n"
line_of_four w a p b = simp append_assoc refl

pub join_parts : (w : List ℕ) (vs : List ℕ) → join_with_byte 32 (w ∷ map decimal vs) ≡ w ++ flat_map part vs
join_parts w [] = sym (append-nil w)
join_parts w (v ∷ vs) = ap (λ t. w ++ (32 ∷ t)) (join_parts (decimal v) vs)

-- ---- numbers of different vertices differ
fewer : (all : List ℕ) (u v : ℕ) → u ≤ v → number_in all u ≤ number_in all v
fewer [] u v le = omega arith
fewer (x ∷ xs) u v le =
    let rest = fewer xs u v le in
    by_test (ltb x u)
    (λ t.
    let below = ltb-true x u t in
    let also : ltb x v ≡ true = lt-ltb x v (omega arith) in rw (t, also) (omega (arith, rest)))
    (λ f. by_test (ltb x v) (λ s. rw (f, s) (omega (arith, rest))) (λ s. rw (f, s) rest))

pub number_less : (all : List ℕ) (u v : ℕ) → member u all ≡ true → u < v → number_in all u < number_in all v
number_less [] u v there lt = absurd (true≢false (sym there))
number_less (x ∷ xs) u v there lt =
    by_equal u x
    (λ t same.
    let not_below : ltb x u ≡ false = by_test (ltb x u) (λ s. let b = ltb-true x u s in absurd (omega arith)) (λ s. s) in
    let below : ltb x v ≡ true = lt-ltb x v (omega arith) in
    let rest = fewer xs u v (omega arith) in
    rw (not_below, below) (omega (arith, rest)))
    (λ f other.
    let later : member u xs ≡ true = rw f at there in
    let rest = number_less xs u v later lt in
    by_test (ltb x u)
    (λ t.
    let b = ltb-true x u t in
    let also : ltb x v ≡ true = lt-ltb x v (omega arith) in rw (t, also) (omega (arith, rest)))
    (λ g. by_test (ltb x v) (λ s. rw (g, s) (omega (arith, rest))) (λ s. rw (g, s) rest)))

pub number_injective : (all : List ℕ) (u v : ℕ) → member u all ≡ true → member v all ≡ true → number_in all u ≡ number_in all v → u ≡ v
number_injective all u v u_there v_there e =
    by_test (ltb u v)
    (λ t. let less = number_less all u v u_there (ltb-true u v t) in absurd (omega arith))
    (λ f. by_test (ltb v u)
    (λ t. let less = number_less all v u v_there (ltb-true v u t) in absurd (omega arith))
    (λ g. let a = ltb-false u v f in let b = ltb-false v u g in omega arith))

pub same_test : (f : ℕ → ℕ) (u v : ℕ) → (f u ≡ f v → u ≡ v) → eqb (f u) (f v) ≡ eqb u v
same_test f u v injective =
    by_equal u v (λ t s. eq-eqb (f u) (f v) (ap f s) ∙ sym t) (λ t n. ne_eqb (f u) (f v) (λ s. n (injective s)) ∙ sym t)

pub member-map : (f : ℕ → ℕ) (v : ℕ) (es : List ℕ) → ((e : ℕ) → member e es ≡ true → f v ≡ f e → v ≡ e) → member (f v) (map f es) ≡ member v es
member-map f v [] injective = refl
member-map f v (e ∷ es) injective =
    ap₂ (λ a b. a || b) (same_test f v e (injective e (member-here e es)))
    (member-map f v es (λ d there. injective d (member-there d e es there)))

-- ---- lists of the numbered graph
pub ids-with : (f : ℕ → ℕ) (vs : List Vertex) → ids (map (vertex_with f) vs) ≡ map f (ids vs)
ids-with f [] = refl
ids-with f (v ∷ vs) = ap (λ t. f v.id ∷ t) (ids-with f vs)

pub end_vertices-with : (f : ℕ → ℕ) (es : List End) → end_vertices (map (end_with f) es) ≡ map f (end_vertices es)
end_vertices-with f [] = refl
end_vertices-with f (e ∷ es) = ap (λ t. f e.vertex ∷ t) (end_vertices-with f es)

pub order_of-with : (f : ℕ → ℕ) (t : List Correction) → order_of (map (correction_with f) t) ≡ map f (order_of t)
order_of-with f [] = refl
order_of-with f (c ∷ cs) = ap (λ t. f c.vertex ∷ t) (order_of-with f cs)

pub set_of-with : (f : ℕ → ℕ) (t : List Correction) (v : ℕ) → ((e : ℕ) → member e (order_of t) ≡ true → f v ≡ f e → v ≡ e) → set_of (map (correction_with f) t) (f v) ≡ map f (set_of t v)
set_of-with f [] v injective = refl
set_of-with f (c ∷ cs) v injective =
    let same : eqb (f v) (f c.vertex) ≡ eqb v c.vertex = same_test f v c.vertex (injective c.vertex (member-here c.vertex (order_of cs))) in
    let rest = set_of-with f cs v (λ d there. injective d (member-there d c.vertex (order_of cs) there)) in
    by_test (eqb v c.vertex)
    (λ t. let s = same ∙ t in rw (s, t) refl)
    (λ t. let s = same ∙ t in rw (s, t) rest)

-- ---- vertices
abbrev kind_text : Kind → ℕ → List ℕ
kind_text kind n =
    codes "vertex" ++ part n ++ codes " " ++ plane_name kind.plane ++ part kind.phase ++ codes "\n"

abbrev AreKinds : (ℕ → Kind) → List Vertex → Type 0
AreKinds kind [] = Unit {0}
AreKinds kind (v ∷ vs) = (kind v.id ≡ v.kind) × AreKinds kind vs

div_one : (n : ℕ) → n / 1 ≡ n
div_one n = omega arith

one_vertex : (n : ℕ) (kind : Kind) → spelled_line (VertexLine n kind.plane (kind.phase / 1)) ≡ kind_text kind n
one_vertex n kind =
    ap (λ k. spelled_line (VertexLine n kind.plane k)) (div_one kind.phase)
    ∙ line_of_four (codes "vertex") (decimal n) (plane_name kind.plane) (decimal kind.phase)

vertices_text : (kind : ℕ → Kind) (f : ℕ → ℕ) (vs : List Vertex) → AreKinds kind vs
    → flat_map spelled_line (map (vertex_line Two) (map (vertex_with f) vs)) ≡ flat_map (λ v. kind_text (kind v) (f v)) (ids vs)
vertices_text kind f [] k = refl
vertices_text kind f (v ∷ vs) k =
    ap₂ (λ s t. s ++ t) (one_vertex (f v.id) v.kind ∙ ap (λ q. kind_text q (f v.id)) (sym k.0)) (vertices_text kind f vs k.1)

AreKinds-more : (kind : ℕ → Kind) (u : ℕ) (first : Kind) (vs : List Vertex) → list_all (ltb u) (ids vs) ≡ true → AreKinds kind vs
    → AreKinds (λ p. cond (eqb p u) first (kind p)) vs
AreKinds-more kind u first [] above k = tt
AreKinds-more kind u first (v ∷ vs) above k =
    let lt = ltb-true u v.id (and-left _ _ above) in
    let other : eqb v.id u ≡ false = ne_eqb v.id u (λ e. absurd (omega arith)) in
    (rw other k.0, AreKinds-more kind u first vs (and-right _ _ above) k.1)

kinds_of : (vs : List Vertex) → in_order ltb (ids vs) ≡ true → AreKinds (kind_of vs) vs
kinds_of [] rising = tt
kinds_of (v ∷ vs) rising = (
  let here = eqb-self v.id in rw here refl,
  AreKinds-more (kind_of vs) v.id v.kind vs (and-left _ _ rising) (kinds_of vs (and-right _ _ rising)),
)

-- ---- edges
abbrev edge_spelled : (ℕ → ℕ) → Edge → List ℕ
edge_spelled f e = spelled_line (edge_line (edge_with f e))

edge_is : (used : List ℕ) (v w : ℕ) → ltb v w ≡ true → spelled_line (EdgeLine (number_in used v) (number_in used w)) ≡ edge_text used v w
edge_is used v w below =
    rw below (line_of_three (codes "edge") (decimal (number_in used v)) (decimal (number_in used w)) ∙ simp append_assoc refl)

from_above : (a : ℕ → ℕ → Bool) (used : List ℕ) (v : ℕ) (ws : List ℕ) → list_all (ltb v) ws ≡ true
    → flat_map (edge_spelled (number_in used)) (edges_from a v ws) ≡ flat_map (edge_text used v) (filter (a v) ws)
from_above a used v [] above = refl
from_above a used v (w ∷ ws) above =
    let rest = from_above a used v ws (and-right _ _ above) in
    by_test (a v w)
    (λ t. rw t (ap₂ (λ x y. x ++ y) (edge_is used v w (and-left _ _ above)) rest))
    (λ t. rw t rest)

nothing_below : (a : ℕ → ℕ → Bool) (used : List ℕ) (v : ℕ) (ws : List ℕ) → list_all (λ w. not (ltb v w)) ws ≡ true
    → flat_map (edge_text used v) (filter (a v) ws) ≡ []
nothing_below a used v [] below = refl
nothing_below a used v (w ∷ ws) below =
    let rest = nothing_below a used v ws (and-right _ _ below) in
    let here : ltb v w ≡ false = not_above (ltb v w) (and-left _ _ below) in
    by_test (a v w) (λ t. rw (t, here) rest) (λ t. rw t rest)
  where
    not_above : (b : Bool) → not b ≡ true → b ≡ false
    not_above true e = sym e
    not_above false e = refl

in_order-later : (xs ys : List ℕ) → in_order ltb (xs ++ ys) ≡ true → in_order ltb ys ≡ true
in_order-later [] ys rising = rising
in_order-later (x ∷ xs) ys rising = in_order-later xs ys (and-right _ _ rising)

not_below : (x v : ℕ) → x ≤ v → not (ltb v x) ≡ true
not_below x v le = by_test (ltb v x) (λ t. let b = ltb-true v x t in absurd (omega arith)) (λ f. ap not f)

earlier : (xs : List ℕ) (v : ℕ) (ys : List ℕ) → in_order ltb (xs ++ v ∷ ys) ≡ true → list_all (λ w. not (ltb v w)) (xs ++ v ∷ []) ≡ true
earlier [] v ys rising = both _ true (not_below v v (omega arith)) refl
earlier (x ∷ xs) v ys rising =
    let there : member v (xs ++ v ∷ ys) ≡ true = member-append v xs (v ∷ ys) ∙ last (member v xs) (member v (v ∷ ys)) (member-here v ys) in
    let lt = ltb-true x v (all_at (ltb x) (xs ++ v ∷ ys) v (and-left _ _ rising) there) in
    both _ _ (not_below x v (omega arith)) (earlier xs v ys (and-right _ _ rising))
  where
    last : (a b : Bool) → b ≡ true → (a || b) ≡ true
    last true b e = refl
    last false b e = e

edges_texts : (a : ℕ → ℕ → Bool) (used before vs : List ℕ) → in_order ltb (before ++ vs) ≡ true
    → flat_map (edge_spelled (number_in used)) (edges_of a vs) ≡ flat_map (λ v. flat_map (edge_text used v) (filter (a v) (before ++ vs))) vs
edges_texts a used before [] rising = refl
edges_texts a used before (v ∷ vs) rising =
    let whole : (before ++ v ∷ []) ++ vs ≡ before ++ v ∷ vs = append_assoc before (v ∷ []) vs in
    let above : list_all (ltb v) vs ≡ true = and-left _ _ (in_order-later before (v ∷ vs) rising) in
    let rest = edges_texts a used (before ++ v ∷ []) vs (ap (in_order ltb) whole ∙ rising) in
    let front : flat_map (edge_text used v) (filter (a v) ((before ++ v ∷ []) ++ vs)) ≡ flat_map (edge_text used v) (filter (a v) vs) =
    ap (flat_map (edge_text used v)) (filter-append (a v) (before ++ v ∷ []) vs)
    ∙ flat_map-append (edge_text used v) (filter (a v) (before ++ v ∷ [])) (filter (a v) vs)
    ∙ ap (λ t. t ++ flat_map (edge_text used v) (filter (a v) vs)) (nothing_below a used v (before ++ v ∷ []) (earlier before v vs rising)) in
    flat_map-append (edge_spelled (number_in used)) (edges_from a v vs) (edges_of a vs)
    ∙ ap₂ (λ x y. x ++ y) (from_above a used v vs above ∙ sym front) rest
    ∙ ap (λ all. flat_map (λ u. flat_map (edge_text used u) (filter (a u) all)) (v ∷ vs)) whole

edges_listed : (g : Graph) → WellFormed g → edges_of (joined g.edges) (ids g.vertices) ≡ g.edges
edges_listed g valid =
    let made = OrderedEdges-edges_of (joined g.edges) (ids g.vertices) valid.vertices_rising in
    edges_ext (edges_of (joined g.edges) (ids g.vertices)) g.edges made.lower_first valid.edges.lower_first made.rising valid.edges.rising
    (λ p q n. joined-edges_of (joined g.edges) (ids g.vertices) p q (joined_comm g.edges) n ∙ sym (restrict (ids g.vertices) g.edges p q valid.edges))

-- ---- ends
input_text : (used : List ℕ) (es : List End) → flat_map spelled_line (map input_line (map (end_with (number_in used)) es)) ≡ flat_map (end_text (codes "input") used) es
input_text used [] = refl
input_text used (e ∷ es) =
    ap₂ (λ s t. s ++ t) (line_of_three (codes "input") (decimal (number_in used e.vertex)) (mark e.hadamard)) (input_text used es)

output_text : (used : List ℕ) (es : List End) → flat_map spelled_line (map output_line (map (end_with (number_in used)) es)) ≡ flat_map (end_text (codes "output") used) es
output_text used [] = refl
output_text used (e ∷ es) =
    ap₂ (λ s t. s ++ t) (line_of_three (codes "output") (decimal (number_in used e.vertex)) (mark e.hadamard)) (output_text used es)

-- ---- flows
pub placed : (g : Graph) (t : List Correction) (v : ℕ) → IsTableOf (seen g) t → IsVertex g v → member v (end_vertices g.outputs) ≡ false → member v (order_of t) ≡ true
placed g t v table live none =
    let either = all_at (λ u. member u (end_vertices g.outputs) || member u (order_of t)) (ids g.vertices) v table.all_there live in
    rw none at either

in_graph : (g : Graph) (t : List Correction) (v : ℕ) → IsTableOf (seen g) t → member v (order_of t) ≡ true → IsVertex g v
in_graph g t v table there =
    and-left _ _ (all_at (λ u. member u (ids g.vertices) && not (member u (end_vertices g.outputs))) (order_of t) v table.no_others there)

set_line : (used : List ℕ) (x : ℕ) (s : List ℕ) → spelled_line (CorrectLine (number_in used x) (map (number_in used) s)) ≡ correction_text used x s
set_line used x s =
    ap (λ t. t ++ codes "\n") (join_parts (codes "correct") (number_in used x ∷ map (number_in used) s)
    ∙ ap (λ t. codes "correct" ++ (part (number_in used x) ++ t)) (flat_map-map part (number_in used) s))

sets_text : (used : List ℕ) (t numbered : List Correction) (outputs numbered_outputs xs : List ℕ)
    → ((x : ℕ) → member x xs ≡ true → member (number_in used x) numbered_outputs ≡ member x outputs)
    → ((x : ℕ) → member x xs ≡ true → set_of numbered (number_in used x) ≡ map (number_in used) (set_of t x))
    → flat_map spelled_line (map (λ v. CorrectLine v (set_of numbered v)) (filter (λ v. not (member v numbered_outputs)) (map (number_in used) xs)))
    ≡ flat_map (λ x. cond (member x outputs) [] (correction_text used x (set_of t x))) xs
sets_text used t numbered outputs numbered_outputs [] same sets = refl
sets_text used t numbered outputs numbered_outputs (x ∷ xs) same sets =
    let rest = sets_text used t numbered outputs numbered_outputs xs (λ y there. same y (member-there y x xs there)) (λ y there. sets y (member-there y x xs there)) in
    let here = same x (member-here x xs) in
    by_test (member x outputs)
    (λ e. let there = here ∙ e in rw (there, e) rest)
    (λ e. let there = here ∙ e in
    rw (there, e) (ap₂ (λ a b. a ++ b) (ap (λ s. spelled_line (CorrectLine (number_in used x) s)) (sets x (member-here x xs)) ∙ set_line used x (set_of t x)) rest))

flow_order : (o s : List ℕ) → codes "flow\n" ++ (((codes "order" ++ o) ++ codes "\n") ++ s) ≡ codes "flow\norder" ++ o ++ codes "\n" ++ s
flow_order o s = simp append_assoc refl

flow_is : (g : Graph) (t : List Correction) → WellFormed g → IsTableOf (seen g) t
    → flat_map spelled_line (flow_lines (numbered g) (Some (numbered_table g t))) ≡ flow_text g (ids g.vertices) t
flow_is g t valid table =
    let f : ℕ → ℕ = number_in (ids g.vertices) in
    let nt = numbered_table g t in
    let outputs = end_vertices g.outputs in
    let order : spelled_line (OrderLine (order_of nt)) ≡ (codes "order" ++ flat_map (λ v. part (f v)) (order_of t)) ++ codes "\n" =
    ap (λ vs. spelled_line (OrderLine vs)) (order_of-with f t)
    ∙ ap (λ s. s ++ codes "\n") (join_parts (codes "order") (map f (order_of t)) ∙ ap (λ s. codes "order" ++ s) (flat_map-map part f (order_of t))) in
    let same : (x : ℕ) → member x (ids g.vertices) ≡ true → member (f x) (end_vertices (map (end_with f) g.outputs)) ≡ member x outputs =
    λ x there. ap (member (f x)) (end_vertices-with f g.outputs)
    ∙ member-map f x outputs (λ e e_there. number_injective (ids g.vertices) x e there (all_at (λ u. member u (ids g.vertices)) outputs e valid.outputs.there e_there)) in
    let sets : (x : ℕ) → member x (ids g.vertices) ≡ true → set_of nt (f x) ≡ map f (set_of t x) =
    λ x there. set_of-with f t x (λ e e_there. number_injective (ids g.vertices) x e there (in_graph g t e table e_there)) in
    let rest : flat_map spelled_line (map (λ v. CorrectLine v (set_of nt v)) (filter (λ v. not (member v (end_vertices (map (end_with f) g.outputs)))) (ids (map (vertex_with f) g.vertices))))
    ≡ flat_map (set_text g (ids g.vertices) t) (ids g.vertices) =
    ap (λ vs. flat_map spelled_line (map (λ v. CorrectLine v (set_of nt v)) (filter (λ v. not (member v (end_vertices (map (end_with f) g.outputs)))) vs))) (ids-with f g.vertices)
    ∙ sets_text (ids g.vertices) t nt outputs (end_vertices (map (end_with f) g.outputs)) (ids g.vertices) same sets in
    ap₂ (λ a b. codes "flow\n" ++ (a ++ b)) order rest
    ∙ flow_order (flat_map (λ v. part (f v)) (order_of t)) (flat_map (set_text g (ids g.vertices) t) (ids g.vertices))

lent_is : (g : Graph) (table : Option (List Correction)) → WellFormed g → IfSome table (IsTableOf (seen g))
    → flat_map spelled_line (flow_lines (numbered g) (numbered_flow g table)) ≡ lent_text g (ids g.vertices) table
lent_is g None valid flow = refl
lent_is g (Some t) valid flow = flow_is g t valid flow

in_parts : (a b c d e : List Line) → flat_map spelled_line (a ++ (b ++ (c ++ (d ++ (e ++ EndLine ∷ [])))))
    ≡ flat_map spelled_line a ++ (flat_map spelled_line b ++ (flat_map spelled_line c ++ (flat_map spelled_line d ++ (flat_map spelled_line e ++ codes "end\n"))))
in_parts a b c d e =
    flat_map-append spelled_line a (b ++ (c ++ (d ++ (e ++ EndLine ∷ []))))
    ∙ ap (λ t. flat_map spelled_line a ++ t) (flat_map-append spelled_line b (c ++ (d ++ (e ++ EndLine ∷ [])))
    ∙ ap (λ t. flat_map spelled_line b ++ t) (flat_map-append spelled_line c (d ++ (e ++ EndLine ∷ []))
    ∙ ap (λ t. flat_map spelled_line c ++ t) (flat_map-append spelled_line d (e ++ EndLine ∷ [])
    ∙ ap (λ t. flat_map spelled_line d ++ t) (flat_map-append spelled_line e (EndLine ∷ [])))))

in_a_row : (h a b c d e z : List ℕ) → h ++ a ++ b ++ c ++ d ++ e ++ z ≡ h ++ (a ++ (b ++ (c ++ (d ++ (e ++ z)))))
in_a_row h a b c d e z = simp append_assoc refl

pub file_is : (g : Graph) (table : Option (List Correction)) → WellFormed g → IfSome table (IsTableOf (seen g))
    → codes "zxg 2\n" ++ flat_map (vertex_text g (ids g.vertices)) (ids g.vertices)
    ++ flat_map (λ v. flat_map (edge_text (ids g.vertices) v) (neighbours g v)) (ids g.vertices)
    ++ flat_map (end_text (codes "input") (ids g.vertices)) g.inputs ++ flat_map (end_text (codes "output") (ids g.vertices)) g.outputs
    ++ lent_text g (ids g.vertices) table ++ codes "end\n"
    ≡ spelled Two (numbered g) (numbered_flow g table)
unfolding spelled
file_is g table valid flow =
    let f : ℕ → ℕ = number_in (ids g.vertices) in
    let n = numbered g in
    let vertices = vertices_text (kind_of g.vertices) f g.vertices (kinds_of g.vertices valid.vertices_rising) in
    let edges : flat_map spelled_line (map edge_line (map (edge_with f) g.edges)) ≡ flat_map (λ v. flat_map (edge_text (ids g.vertices) v) (neighbours g v)) (ids g.vertices) =
    flat_map-map spelled_line edge_line (map (edge_with f) g.edges) ∙ flat_map-map (λ e. spelled_line (edge_line e)) (edge_with f) g.edges
    ∙ ap (flat_map (edge_spelled f)) (sym (edges_listed g valid))
    ∙ edges_texts (joined g.edges) (ids g.vertices) [] (ids g.vertices) valid.vertices_rising in
    let all : flat_map spelled_line (lines Two n (numbered_flow g table)) ≡ flat_map (vertex_text g (ids g.vertices)) (ids g.vertices)
    ++ (flat_map (λ v. flat_map (edge_text (ids g.vertices) v) (neighbours g v)) (ids g.vertices)
    ++ (flat_map (end_text (codes "input") (ids g.vertices)) g.inputs ++ (flat_map (end_text (codes "output") (ids g.vertices)) g.outputs
    ++ (lent_text g (ids g.vertices) table ++ codes "end\n")))) =
    in_parts (map (vertex_line Two) n.vertices) (map edge_line n.edges) (map input_line n.inputs) (map output_line n.outputs) (flow_lines n (numbered_flow g table))
    ∙ ap₂ (λ s t. s ++ t) vertices (ap₂ (λ s t. s ++ t) edges (ap₂ (λ s t. s ++ t) (input_text (ids g.vertices) g.inputs)
    (ap₂ (λ s t. s ++ t) (output_text (ids g.vertices) g.outputs) (ap (λ s. s ++ codes "end\n") (lent_is g table valid flow))))) in
    in_a_row (codes "zxg 2\n") (flat_map (vertex_text g (ids g.vertices)) (ids g.vertices))
    (flat_map (λ v. flat_map (edge_text (ids g.vertices) v) (neighbours g v)) (ids g.vertices))
    (flat_map (end_text (codes "input") (ids g.vertices)) g.inputs) (flat_map (end_text (codes "output") (ids g.vertices)) g.outputs)
    (lent_text g (ids g.vertices) table) (codes "end\n")
    ∙ sym (ap (λ t. codes "zxg 2\n" ++ t) all)

pub lent_table : {X : Type 0} (table_of : X → List Correction) (P : List Correction → Type 0) (o : Option X) → ForSome o (λ x. P (table_of x)) → IfSome (option_map table_of o) P
lent_table table_of P None given = tt
lent_table table_of P (Some x) given = given x refl

-- all pieces of a file in a row
pub assembled : (g : Graph) (table : Option (List Correction)) (inputs outputs : List End) (u1 u2 u3 u4 u5 e t0 t1 t2 t3 t4 t5 t6 : List ℕ)
    → WellFormed g → IfSome table (IsTableOf (seen g)) → inputs ≡ g.inputs → outputs ≡ g.outputs
    → u1 ≡ ids g.vertices → u2 ≡ ids g.vertices → u3 ≡ ids g.vertices → u4 ≡ ids g.vertices → u5 ≡ ids g.vertices
    → e ≡ [] → t0 ≡ e ++ codes "zxg 2\n"
    → t1 ≡ t0 ++ flat_map (vertex_text g u1) (ids g.vertices)
    → t2 ≡ t1 ++ flat_map (λ v. flat_map (edge_text u2 v) (neighbours g v)) (ids g.vertices)
    → t3 ≡ t2 ++ flat_map (end_text (codes "input") u3) inputs
    → t4 ≡ t3 ++ flat_map (end_text (codes "output") u4) outputs
    → t5 ≡ t4 ++ lent_text g u5 table → t6 ≡ t5 ++ codes "end\n"
    → t6 ≡ spelled Two (numbered g) (numbered_flow g table)
assembled g table inputs outputs u1 u2 u3 u4 u5 e t0 t1 t2 t3 t4 t5 t6 valid flow hi ho e1 e2 e3 e4 e5 he h0 h1 h2 h3 h4 h5 h6 =
    let s0 : t0 ≡ codes "zxg 2\n" = h0 ∙ ap (λ x. x ++ codes "zxg 2\n") he in
    let s1 = h1 ∙ ap₂ (λ t u. t ++ flat_map (vertex_text g u) (ids g.vertices)) s0 e1 in
    let s2 = h2 ∙ ap₂ (λ t u. t ++ flat_map (λ v. flat_map (edge_text u v) (neighbours g v)) (ids g.vertices)) s1 e2 in
    let s3 = h3 ∙ ap (λ es. t2 ++ flat_map (end_text (codes "input") u3) es) hi ∙ ap₂ (λ t u. t ++ flat_map (end_text (codes "input") u) g.inputs) s2 e3 in
    let s4 = h4 ∙ ap (λ es. t3 ++ flat_map (end_text (codes "output") u4) es) ho ∙ ap₂ (λ t u. t ++ flat_map (end_text (codes "output") u) g.outputs) s3 e4 in
    let s5 = h5 ∙ ap₂ (λ t u. t ++ lent_text g u table) s4 e5 in
    h6 ∙ ap (λ t. t ++ codes "end\n") s5 ∙ file_is g table valid flow
