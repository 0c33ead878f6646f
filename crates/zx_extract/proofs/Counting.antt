-- How many vertices of each kind are left.
use Rattle.std.proofs.Common.{◌≡◌, refl, ◌∙◌, ap, ap₂, ℕ, Bool, true, false, cond, not, ◌&&◌, eqb, List, length, filter}
use Rattle.zx_model.specs.Bits.{member}
use Rattle.zx_calculus.specs.Graph.{Plane, Kind, Vertex, Graph, end_vertices, is_XY, with_kinds}
use Rattle.zx_calculus.specs.Turns.{in_plane}
use Rattle.zx_calculus.specs.Counts.{not_XY, XY_without_output}
use Rattle.zx_calculus.proofs.CountLemmas.{count, count-with_kinds}
use Rattle.circuit_laws.specs.Peeling.{cleared_kind}

-- vertices in the same planes, and outputs at the same vertices
pub as_many_XY : (g h : Graph) → h.vertices ≡ g.vertices → end_vertices h.outputs ≡ end_vertices g.outputs →
    XY_without_output h ≡ XY_without_output g
as_many_XY g h vertices outputs =
    ap₂ (λ (vs : List Vertex) (us : List ℕ). length (filter
    (λ (v : Vertex). is_XY v.kind.plane && not (member v.id us)) vs)) vertices outputs

pub as_many_others : (g h : Graph) → h.vertices ≡ g.vertices → not_XY h ≡ not_XY g
as_many_others g h vertices = ap (λ (vs : List Vertex). length (filter (λ (v : Vertex). not (is_XY v.kind.plane)) vs))
    vertices

-- a phase that is taken away changes no plane
pub plane-cleared : (u p : ℕ) (kind : Kind) → (cleared_kind u p kind).plane ≡ kind.plane
plane-cleared u p kind = at (eqb p u)
  where
    at : (b : Bool) → (cond b (in_plane kind.plane 0) kind).plane ≡ kind.plane
    at true = refl
    at false = refl

count_by_planes : (test : ℕ → Plane → Bool) (u : ℕ) (vs : List Vertex) →
    count (λ p k. test p k.plane) (with_kinds (cleared_kind u) vs) ≡ count (λ p k. test p k.plane) vs
count_by_planes test u vs =
    count-with_kinds (λ p k. test p k.plane) (cleared_kind u) vs
    ∙ ap (λ (t : ℕ → Kind → Bool). count t vs) (λ i p k. test p (plane-cleared u p k i))

pub as_many_XY_cleared : (g h : Graph) (u : ℕ) → h.vertices ≡ with_kinds (cleared_kind u) g.vertices →
    h.outputs ≡ g.outputs → XY_without_output h ≡ XY_without_output g
as_many_XY_cleared g h u vertices outputs =
    ap₂ (λ (vs : List Vertex) (us : List ℕ). length (filter
    (λ (v : Vertex). is_XY v.kind.plane && not (member v.id us)) vs)) vertices (ap end_vertices outputs)
    ∙ count_by_planes (λ p plane. is_XY plane && not (member p (end_vertices g.outputs))) u g.vertices

pub as_many_others_cleared : (g h : Graph) (u : ℕ) → h.vertices ≡ with_kinds (cleared_kind u) g.vertices →
    not_XY h ≡ not_XY g
as_many_others_cleared g h u vertices =
    ap (λ (vs : List Vertex). length (filter (λ (v : Vertex). not (is_XY v.kind.plane)) vs)) vertices
    ∙ count_by_planes (λ p plane. not (is_XY plane)) u g.vertices
