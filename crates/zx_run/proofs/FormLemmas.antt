-- The graph-like form of a diagram has the ids 0, 1, 2 and so on, so the numbers in its file are its ids.
use Rattle.std.proofs.Common.{◌≡◌, ◌<◌, ◌≤◌, ◌+◌, ℕ, suc, zero as nought, true, true≢false, ltb, lt-ltb, List, [], ◌∷◌, ◌++◌, length, map, filter, inl, inr, refl, sym, ap, ap₂, ◌∙◌, arith}
use Rattle.std.specs.List.{list_all}
use Rattle.std.proofs.lemmas.Bool.{cases_lt, le-ltb}
use Rattle.zx_model.specs.Bits.{member}
use Rattle.zx_calculus.specs.Graph.{Vertex, Edge, End, Graph, WellFormed, ids, end_vertices}
use Rattle.zx_calculus.specs.Splits.{spider_of_phase_zero}
use Rattle.zx_calculus.proofs.Ids.{and-left, and-right}
use Rattle.zx_diagram.specs.Diagram.{Diagram, numbers_from}
use Rattle.graph_like.specs.LikeForm.{IsLikeForm, class_vertex, home_in, leaders, all_surplus}
use Rattle.graph_like.proofs.Homing.{absent-below}
use Rattle.graph_like.proofs.LikeSum.{numbers_from-append, ids-append, ids-classes, ids-new}
use Rattle.zx_text.specs.Numbered.{number_in, vertex_with, edge_with, end_with, numbered}

-- ---- of numbers in a row as many are lower as each says
none_below : (v k n : ℕ) → v ≤ k → length (filter (λ u. ltb u v) (numbers_from k n)) ≡ 0
none_below v k nought high = refl
none_below v k (suc n) high = rw (le-ltb k v high) (none_below v (suc k) n (omega (arith, high)))

below : (v k n : ℕ) → k ≤ v → v ≤ k + n → k + length (filter (λ u. ltb u v) (numbers_from k n)) ≡ v
below v k nought low high = omega (arith, low, high)
below v k (suc n) low high = elim (cases_lt k v) [
  | inl lt ↦ let rest = below v (suc k) n (omega (arith, lt)) (omega (arith, high)) in rw (lt-ltb k v lt) (omega (arith, rest))
  | inr ge ↦ let rest = none_below v (suc k) n (omega (arith, ge)) in rw (le-ltb k v ge) (omega (arith, rest, low, ge))
]

number_is : (n v : ℕ) → v < n → number_in (numbers_from 0 n) v ≡ v
number_is n v lt = let all = below v 0 n (omega arith) (omega (arith, lt)) in omega (arith, all)

below_all : (n v : ℕ) → member v (numbers_from 0 n) ≡ true → v < n
below_all n v there = elim (cases_lt v n) [
  | inl lt ↦ lt
  | inr ge ↦ absurd (true≢false (sym there ∙ absent-below v 0 n (omega (arith, ge))))
]

row_same : (total k n : ℕ) → k + n ≤ total → map (number_in (numbers_from 0 total)) (numbers_from k n) ≡ numbers_from k n
row_same total k nought within = refl
row_same total k (suc n) within =
    ap₂ (λ v vs. v ∷ vs) (number_is total k (omega (arith, within))) (row_same total (suc k) n (omega (arith, within)))

-- ---- so each part of a graph stays
module _ (number : ℕ → ℕ) where
  vertices_same : (vs : List Vertex) → map number (ids vs) ≡ ids vs → map (vertex_with number) vs ≡ vs
  vertices_same [] same = refl
  vertices_same (v ∷ vs) same =
      let first : number v.id ≡ v.id = cc in
      let rest : map number (ids vs) ≡ ids vs = cc in
      ap₂ (λ (id : ℕ) (ws : List Vertex). record { id = id; kind = v.kind } ∷ ws) first (vertices_same vs rest)

  module _ (vs : List ℕ) (same : (v : ℕ) → member v vs ≡ true → number v ≡ v) where
    edges_same : (es : List Edge) → list_all (λ e. member e.lower vs) es ≡ true → list_all (λ e. member e.higher vs) es ≡ true
        → map (edge_with number) es ≡ es
    edges_same [] lower higher = refl
    edges_same (e ∷ es) lower higher =
        let one : edge_with number e ≡ e =
        ap₂ (λ (a b : ℕ). record { lower = a; higher = b }) (same e.lower (and-left _ _ lower)) (same e.higher (and-left _ _ higher)) in
        ap₂ (λ (f : Edge) (fs : List Edge). f ∷ fs) one (edges_same es (and-right _ _ lower) (and-right _ _ higher))

    ends_same : (es : List End) → list_all (λ u. member u vs) (end_vertices es) ≡ true → map (end_with number) es ≡ es
    ends_same [] there = refl
    ends_same (e ∷ es) there =
        ap₂ (λ (v : ℕ) (fs : List End). record { vertex = v; hadamard = e.hadamard } ∷ fs) (same e.vertex (and-left _ _ there))
        (ends_same es (and-right _ _ there))

abbrev graph_with : List Vertex → List Edge → List End → List End → Graph
graph_with vs es is os = record { vertices = vs; edges = es; inputs = is; outputs = os }

numbered_same : (g : Graph) (n : ℕ) → WellFormed g → ids g.vertices ≡ numbers_from 0 n → numbered g ≡ g
numbered_same g n valid row =
    let number = number_in (ids g.vertices) in
    let same : (v : ℕ) → member v (ids g.vertices) ≡ true → number v ≡ v =
    λ v there. ap (λ l. number_in l v) row ∙ number_is n v (below_all n v (sym (ap (member v) row) ∙ there)) in
    let all : map number (ids g.vertices) ≡ ids g.vertices =
    ap (λ l. map (number_in l) l) row ∙ row_same n 0 n (omega arith) ∙ sym row in
    let vertices = vertices_same number g.vertices all in
    let edges = edges_same number (ids g.vertices) same g.edges valid.edges.lower_there valid.edges.higher_there in
    let inputs = ends_same number (ids g.vertices) same g.inputs valid.inputs.there in
    let outputs = ends_same number (ids g.vertices) same g.outputs valid.outputs.there in
    ap₂ (λ vs es. graph_with vs es (map (end_with number) g.inputs) (map (end_with number) g.outputs)) vertices edges
    ∙ ap₂ (λ is os. graph_with g.vertices g.edges is os) inputs outputs

pub numbered_form : (d : Diagram) (g : Graph) → IsLikeForm d g → WellFormed g → numbered g ≡ g
numbered_form d g form valid =
    let home = home_in d form.least in
    let count = length (leaders d form.least) in
    let more = length (all_surplus d home) in
    let row : ids g.vertices ≡ numbers_from 0 (count + more) =
    ap (λ (h : Graph). ids h.vertices) form.graph
    ∙ ids-append (map (class_vertex d home) (numbers_from 0 count)) (map spider_of_phase_zero (numbers_from count more))
    ∙ ap₂ (λ xs ys. xs ++ ys) (ids-classes d home (numbers_from 0 count)) (ids-new (numbers_from count more))
    ∙ ap (λ m. numbers_from 0 count ++ numbers_from m more) (omega arith)
    ∙ numbers_from-append 0 count more in
    numbered_same g (count + more) valid row
