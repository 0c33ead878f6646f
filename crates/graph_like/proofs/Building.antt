-- Vertices one behind the other, and edges between classes.
use Rattle.std.proofs.Common.{◌≡◌, refl, sym, ◌∙◌, ap, ap₂, subst, ℕ, suc, ◌+◌, ◌<◌, Bool, true, false, ◌&&◌, eqb, ltb, List, [], ◌∷◌, ◌++◌, length, map, get_or, drop, length-append, le-ltb, ltb-true, ltb-false, true≢false, arith}
use Rattle.std.specs.Prelude.{slice_index_or}
use Rattle.std.proofs.lemmas.List.{length-map, map-append}
use Rattle.std.proofs.Math.Seq.{drop-cons}
use Rattle.zx_model.specs.Bits.{xor, member}
use Rattle.zx_model.proofs.BitLemmas.{xor-false}
use Rattle.zx_calculus.specs.Graph.{XY, Vertex, Graph, ids, kind_of, joined, in_order, IsVertex, insert_vertex, WellFormed}
use Rattle.zx_calculus.specs.Edits.{is_pair}
use Rattle.zx_calculus.specs.Splits.{least_free}
use Rattle.zx_calculus.specs.Worked.{vertex}
use Rattle.zx_calculus.proofs.Ids.{by_test, member-here, member-there}
use Rattle.zx_calculus.proofs.LeastFree.{least_free-unique}
use Rattle.zx_diagram.specs.declared.spider.Spider.{Spider}
use Rattle.zx_diagram.specs.declared.wire.Wire.{Wire}
use Rattle.zx_diagram.specs.Diagram.{numbers_from}
use Rattle.zx_diagram.specs.Sum.{edge_mark}
use Rattle.graph_like.specs.LikeForm.{joined_oddly}
use Rattle.graph_like.specs.Internal.Building.{IsNumbered, IsJoinedBy, vertices_of}
use Rattle.graph_like.proofs.ClassLemmas.{length-numbers_from, member-numbers_from}
use Rattle.graph_like.proofs.Homing.{numbers_from-more, absent-below}
use Rattle.graph_like.proofs.LikeSum.{rising-numbers_from, ids-append}

-- vertices that are numbered
pub numbered_live : (g : Graph) (p : ℕ) → IsNumbered g → p < length g.vertices → IsVertex g p
numbered_live g p n low = ap (member p) n.ids ∙ member-numbers_from p 0 (length g.vertices) (omega arith) (omega arith)

pub numbered_least : (g : Graph) → IsNumbered g → least_free (ids g.vertices) ≡ length g.vertices
numbered_least g n =
    sym (least_free-unique (ids g.vertices) (length g.vertices)
    (ap (in_order ltb) n.ids ∙ rising-numbers_from 0 (length g.vertices))
    (ap (member (length g.vertices)) n.ids ∙ absent-below (length g.vertices) 0 (length g.vertices) (omega arith))
    (λ q low. numbered_live g q n low))

insert_last : (w : Vertex) (vs : List Vertex) → ((p : ℕ) → member p (ids vs) ≡ true → p < w.id) → insert_vertex w vs ≡ vs ++ w ∷ []
insert_last w [] below = refl
insert_last w (v ∷ vs) below =
    let low : v.id < w.id = below v.id (member-here v.id (ids vs)) in
    rw (le-ltb w.id v.id (omega arith)) (ap (λ l. v ∷ l) (insert_last w vs (λ p there. below p (member-there p v.id (ids vs) there))))

pub numbered_below : (g : Graph) (p : ℕ) → IsNumbered g → member p (ids g.vertices) ≡ true → p < length g.vertices
numbered_below g p n there =
    by_test (ltb p (length g.vertices)) (λ t. ltb-true p (length g.vertices) t)
    (λ t. absurd (true≢false (sym there ∙ ap (member p) n.ids
    ∙ absent-below p 0 (length g.vertices) (omega (arith, ltb-false p (length g.vertices) t)))))

pub pushed_last : (g : Graph) (v k : ℕ) → IsNumbered g → v ≡ least_free (ids g.vertices) →
    insert_vertex (vertex v XY k) g.vertices ≡ g.vertices ++ vertex (length g.vertices) XY k ∷ []
pushed_last g v k n least =
    ap (λ i. insert_vertex (vertex i XY k) g.vertices) (least ∙ numbered_least g n)
    ∙ insert_last (vertex (length g.vertices) XY k) g.vertices (λ p there. numbered_below g p n there)

kind-pushed : (u w k : ℕ) (vs : List Vertex) → (kind_of vs u).plane ≡ XY → (kind_of (vs ++ vertex w XY k ∷ []) u).plane ≡ XY
kind-pushed u w k [] h = by_test (eqb u w) (λ t. rw t refl) (λ t. rw t refl)
kind-pushed u w k (v ∷ vs) h =
    by_test (eqb u v.id) (λ t. rw t (rw t at h)) (λ t. rw t (kind-pushed u w k vs (rw t at h)))

pub numbered_more : (g h : Graph) (k : ℕ) → IsNumbered g → h.vertices ≡ g.vertices ++ vertex (length g.vertices) XY k ∷ [] →
    WellFormed h → IsNumbered h
numbered_more g h k n more w = record {
  ids = ap ids more ∙ ids-append g.vertices (new ∷ []) ∙ ap (λ l. l ++ count ∷ []) n.ids ∙ ap (λ m. numbers_from 0 count ++ m ∷ []) zero_more
      ∙ sym (numbers_from-more 0 count) ∙ ap (numbers_from 0) (sym longer);
  planes = λ u. ap (λ vs. (kind_of vs u).plane) more ∙ kind-pushed u count k g.vertices (n.planes u);
  valid = w;
}
  where
    count : ℕ
    count = length g.vertices

    new : Vertex
    new = vertex count XY k

    zero_more : count ≡ 0 + count
    zero_more = omega arith

    longer : length h.vertices ≡ suc count
    longer = ap length more ∙ length-append g.vertices (new ∷ []) ∙ omega arith

-- one vertex for each phase
pub length-vertices_of : (phases : List ℕ) (count : ℕ) → length (vertices_of phases count) ≡ count
length-vertices_of phases count = (simp length-map) ∙ length-numbers_from 0 count

pub vertices_of-more : (phases : List ℕ) (i : ℕ) →
    vertices_of phases (i + 1) ≡ vertices_of phases i ++ vertex (length (vertices_of phases i)) XY (slice_index_or phases i 0) ∷ []
vertices_of-more phases i =
    ap (vertices_of phases) next ∙ ap (map made) (numbers_from-more 0 i) ∙ map-append made (numbers_from 0 i) ((0 + i) ∷ [])
    ∙ ap (λ (p : ℕ). vertices_of phases i ++ made p ∷ []) zero_more
    ∙ ap (λ (p : ℕ). vertices_of phases i ++ vertex p XY (slice_index_or phases i 0) ∷ []) (sym (length-vertices_of phases i))
  where
    made : ℕ → Vertex
    made p = vertex p XY (slice_index_or phases p 0)

    next : i + 1 ≡ suc i
    next = omega arith

    zero_more : 0 + i ≡ i
    zero_more = omega arith

-- edges
pub joined_nothing : (spiders : List Spider) (home : ℕ → ℕ) (g : Graph) → IsJoinedBy spiders home [] g g
joined_nothing spiders home g = record { vertices = refl; inputs = refl; outputs = refl; edges = λ p q ne. sym (xor-false (joined g.edges p q)) }

pub xor_regroup : (a m b : Bool) → xor (xor a (xor m false)) b ≡ xor a (xor m b)
xor_regroup true true b = by b
  where
    by : (c : Bool) → xor (xor true (xor true false)) c ≡ xor true (xor true c)
    by true = refl
    by false = refl
xor_regroup true false b = refl
xor_regroup false true b = refl
xor_regroup false false b = refl

pub joined_then : (spiders : List Spider) (home : ℕ → ℕ) (e : Wire) (es : List Wire) (g h k : Graph) →
    IsJoinedBy spiders home (e ∷ []) g h → IsJoinedBy spiders home es h k → IsJoinedBy spiders home (e ∷ es) g k
joined_then spiders home e es g h k a b = record {
  vertices = b.vertices ∙ a.vertices;
  inputs = b.inputs ∙ a.inputs;
  outputs = b.outputs ∙ a.outputs;
  edges = λ p q ne. b.edges p q ne ∙ ap (λ j. xor j (joined_oddly spiders home es p q)) (a.edges p q ne)
      ∙ xor_regroup (joined g.edges p q) (edge_mark spiders e && is_pair (home e.a) (home e.b) p q) (joined_oddly spiders home es p q);
}

-- while the edges are gone through
pub record IsJoining (spiders : List Spider) (home : ℕ → ℕ) (wires : List Wire) (i : ℕ) (g h : Graph) : Type 0 where
  pub same : h.vertices ≡ g.vertices
  pub numbered : IsNumbered h
  pub leads : (k : Graph) → IsJoinedBy spiders home (drop i wires) h k → IsJoinedBy spiders home wires g k

pub joining_more : (spiders : List Spider) (home : ℕ → ℕ) (wires : List Wire) (i : ℕ) (g h h2 : Graph) (e : Wire) → i < length wires →
    ((o : Wire) → get_or wires i o ≡ e) → IsJoinedBy spiders home (e ∷ []) h h2 → IsNumbered h2 →
    IsJoining spiders home wires i g h → IsJoining spiders home wires (i + 1) g h2
joining_more spiders home wires i g h h2 e low at step numbered j = record {
  same = step.vertices ∙ j.same;
  numbered = numbered;
  leads = λ k rest. j.leads k (subst (λ es. IsJoinedBy spiders home es h k) (sym cut) (joined_then spiders home e (drop (i + 1) wires) h h2 k step rest));
}
  where
    next : suc i ≡ i + 1
    next = omega arith

    cut : drop i wires ≡ e ∷ drop (i + 1) wires
    cut = drop-cons wires i e low ∙ ap₂ (λ x l. x ∷ l) (at e) (ap (λ n. drop n wires) next)
