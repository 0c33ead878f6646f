-- Places of ends, and one end of a list replaced.
use Rattle.std.proofs.Common.{◌≡◌, ◌≢◌, sym, ◌∙◌, ap, refl, ℕ, zero as nought, suc, true, ◌||◌, eqb, List, [], ◌∷◌, set, eq-eqb, true≢false, ap₂, not, ◌&&◌, false, Bool, remove}
use Rattle.std.specs.Prelude.{slice_get, Some}
use Rattle.std.specs.List.{list_all}
use Rattle.std.proofs.lemmas.Option.{same_Some}
use Rattle.zx_model.specs.Bits.{member}
use Rattle.zx_calculus.specs.Graph.{Vertex, End, Graph, ids, end_vertices, in_order, different, WellFormed, OrderedEnds, XY, plane_of, kind_of, is_XY, plain}
use Rattle.zx_calculus.proofs.Booleans.{or-true}
use Rattle.zx_calculus.proofs.Ids.{and-left, and-right, not-true, or-left, or-right}
use Rattle.zx_calculus.proofs.Splitting.{all_at, plane_XY}
use Rattle.circuit_laws.specs.Peeling.{are_plain}

pub first_is : (e d : End) → Some e ≡ Some d → e ≡ d
first_is e d h = cc

-- the vertex of an end is among the end_vertices
pub member-places : (es : List End) (q : ℕ) (e : End) → slice_get es q ≡ Some e → member e.vertex (end_vertices es) ≡ true
member-places [] q e h = cc
member-places (d ∷ es) nought e h = ap (λ b. b || member e.vertex (end_vertices es)) (eq-eqb e.vertex d.vertex (sym (ap (λ (c : End). c.vertex) (first_is d e h))))
member-places (d ∷ es) (suc q) e h = ap (λ b. eqb e.vertex d.vertex || b) (member-places es q e h) ∙ or-true (eqb e.vertex d.vertex)

pub output_there : (g : Graph) (q : ℕ) (e : End) → WellFormed g → slice_get g.outputs q ≡ Some e →
    member e.vertex (ids g.vertices) ≡ true
output_there g q e w h = all_at (λ u. member u (ids g.vertices)) (end_vertices g.outputs) e.vertex w.outputs.there (member-places g.outputs q e h)

pub output_plane : (g : Graph) (q : ℕ) (e : End) → WellFormed g → slice_get g.outputs q ≡ Some e → plane_of g e.vertex ≡ XY
output_plane g q e w h = plane_XY _ (all_at (λ u. is_XY (kind_of g.vertices u).plane) (end_vertices g.outputs) e.vertex w.outputs.at_XY (member-places g.outputs q e h))

-- an end is replaced by one at the same vertex
pub places-same : (es : List End) (q : ℕ) (e d : End) → slice_get es q ≡ Some e → e.vertex ≡ d.vertex →
    end_vertices (set es q d) ≡ end_vertices es
places-same [] q e d h same = refl
places-same (c ∷ es) nought e d h same = ap (λ v. v ∷ end_vertices es) (sym same ∙ sym (ap (λ (c : End). c.vertex) (first_is c e h)))
places-same (c ∷ es) (suc q) e d h same = ap (λ r. c.vertex ∷ r) (places-same es q e d h same)

pub slice_get-set : (es : List End) (q : ℕ) (e d : End) → slice_get es q ≡ Some e → slice_get (set es q d) q ≡ Some d
slice_get-set [] q e d h = cc
slice_get-set (c ∷ es) nought e d h = refl
slice_get-set (c ∷ es) (suc q) e d h = slice_get-set es q e d h

pub set_same : (es : List End) (q : ℕ) (e : End) → slice_get es q ≡ Some e → set es q e ≡ es
set_same [] q e h = refl
set_same (c ∷ es) nought e h = ap (λ d. d ∷ es) (sym (first_is c e h))
set_same (c ∷ es) (suc q) e h = ap (λ r. c ∷ r) (set_same es q e h)

-- an end at a later place stands at another vertex
pub apart_from : (u : ℕ) (ds : List End) (q : ℕ) (e : End) → list_all (different u) (end_vertices ds) ≡ true →
    slice_get ds q ≡ Some e → u ≢ e.vertex
apart_from u [] q e o there same = cc
apart_from u (d ∷ ds) nought e o there same =
    true≢false (sym (eq-eqb u d.vertex (same ∙ sym (ap (λ (c : End). c.vertex) (first_is d e there)))) ∙ not-true (eqb u d.vertex) (and-left _ _ o))
apart_from u (d ∷ ds) (suc q) e o there same = apart_from u ds q e (and-right _ _ o) there same

-- ends at the same vertices are in order where the others are
pub ordered_by_places : (vs : List Vertex) (es ds : List End) → end_vertices ds ≡ end_vertices es → OrderedEnds vs es →
    OrderedEnds vs ds
ordered_by_places vs es ds same o = record { one_each = rw same o.one_each; there = rw same o.there; at_XY = rw same o.at_XY }

pub slice_get-set_other : (es : List End) (i j : ℕ) (d : End) → j ≢ i → slice_get (set es i d) j ≡ slice_get es j
slice_get-set_other [] i j d n = refl
slice_get-set_other (c ∷ es) nought nought d n = absurd (n refl)
slice_get-set_other (c ∷ es) nought (suc j) d n = refl
slice_get-set_other (c ∷ es) (suc i) nought d n = refl
slice_get-set_other (c ∷ es) (suc i) (suc j) d n = slice_get-set_other es i j d (λ e. n (ap (λ k. suc k) e))

-- ends at one vertex stand at one place
pub one_place : (es : List End) (p q : ℕ) (d e : End) → in_order different (end_vertices es) ≡ true →
    slice_get es p ≡ Some d → slice_get es q ≡ Some e → d.vertex ≡ e.vertex → p ≡ q
one_place [] p q d e once h i same = cc
one_place (c ∷ es) nought nought d e once h i same = refl
one_place (c ∷ es) nought (suc q) d e once h i same = absurd (apart_from c.vertex es q e (and-left _ _ once) i (ap (λ (b : End). b.vertex) (first_is c d h) ∙ same))
one_place (c ∷ es) (suc p) nought d e once h i same = absurd (apart_from c.vertex es p d (and-left _ _ once) h (ap (λ (b : End). b.vertex) (first_is c e i) ∙ sym same))
one_place (c ∷ es) (suc p) (suc q) d e once h i same = ap (λ k. suc k) (one_place es p q d e (and-right _ _ once) h i same)

pub plain_end : (e : End) → not e.hadamard ≡ true → e ≡ plain e.vertex
plain_end e h = at e.vertex e.hadamard h
  where
    at : (v : ℕ) (b : Bool) → not b ≡ true → record { vertex = v; hadamard = b } ≡ plain v
    at v true h = absurd (true≢false (sym h))
    at v false h = refl

-- the end whose vertex stands at a place, where all are plain
pub plain_at : (es : List End) (q v : ℕ) → are_plain es ≡ true → slice_get (end_vertices es) q ≡ Some v →
    slice_get es q ≡ Some (plain v)
plain_at [] q v all h = cc
plain_at (d ∷ es) nought v all h =
    ap Some (plain_end d (and-left (not d.hadamard) (are_plain es) all) ∙ ap plain (same_Some d.vertex v h))
plain_at (d ∷ es) (suc q) v all h = plain_at es q v (and-right (not d.hadamard) (are_plain es) all) h

pub plain-set : (es : List End) (q v : ℕ) → are_plain es ≡ true → are_plain (set es q (plain v)) ≡ true
plain-set [] q v h = refl
plain-set (e ∷ es) nought v h = and-right (not e.hadamard) (are_plain es) h
plain-set (e ∷ es) (suc q) v h = ap₂ (λ a b. a && b) (and-left (not e.hadamard) (are_plain es) h)
    (plain-set es q v (and-right (not e.hadamard) (are_plain es) h))

-- what no end stands at, none stands at with one of them taken out
pub absent-remove : (v : ℕ) (es : List End) (i : ℕ) → member v (end_vertices es) ≡ false → member v (end_vertices (remove es i)) ≡ false
absent-remove v [] nought h = refl
absent-remove v [] (suc i) h = refl
absent-remove v (e ∷ es) nought h = or-right (eqb v e.vertex) _ h
absent-remove v (e ∷ es) (suc i) h = ap₂ (λ a b. a || b) (or-left (eqb v e.vertex) _ h)
    (absent-remove v es i (or-right (eqb v e.vertex) _ h))
