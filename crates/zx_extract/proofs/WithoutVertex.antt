-- What is left of a graph that loses a vertex.
use Rattle.std.proofs.Common.{◌≡◌, ◌≢◌, sym, ◌∙◌, ap, ℕ, true, not, eq-eqb, filter, true≢false}
use Rattle.zx_model.specs.Bits.{member}
use Rattle.zx_calculus.specs.Graph.{XZ, Kind, Graph, ids, kind_of, plane_of, phase_of, different, without, IsVertex}
use Rattle.zx_calculus.proofs.Ids.{and-left, and-right, member-filter}
use Rattle.zx_calculus.proofs.Forms.{ids-without}
use Rattle.zx_calculus.proofs.Vertices.{kind_of-without}
use Rattle.gflow_laws.proofs.LastLaws.{filter-removed}

module _ (g h : Graph) (u : ℕ) (vertices : h.vertices ≡ without u g.vertices) where
  pub stays : (x : ℕ) → member x (filter (different u) (ids g.vertices)) ≡ true → x ≢ u
  stays x within e = true≢false (sym (and-right (member x (ids g.vertices)) (different u x)
      (sym (member-filter (different u) (ids g.vertices) x) ∙ within)) ∙ ap not (eq-eqb u x (sym e)))

  pub ids_left : (x : ℕ) → member x (filter (different u) (ids g.vertices)) ≡ member x (ids h.vertices)
  ids_left x = ap (member x) (filter-removed u (ids g.vertices) ∙ sym (ids-without u g.vertices) ∙ ap ids (sym vertices))

  kind_left : (x : ℕ) → x ≢ u → kind_of h.vertices x ≡ kind_of g.vertices x
  kind_left x n = ap (λ vs. kind_of vs x) vertices ∙ kind_of-without x u g.vertices n

  pub phase_left : (x : ℕ) → x ≢ u → phase_of h x ≡ phase_of g x
  phase_left x n = ap (λ (k : Kind). k.phase) (kind_left x n)

  pub plane_left : (x : ℕ) → member x (filter (different u) (ids g.vertices)) ≡ true → plane_of g x ≡ plane_of h x
  plane_left x within = sym (ap (λ (k : Kind). k.plane) (kind_left x (stays x within)))

  pub planes_left : ((x : ℕ) → IsVertex g x → plane_of g x ≢ XZ) → (x : ℕ) → IsVertex h x → plane_of h x ≢ XZ
  planes_left planes x live e =
      let within : member x (filter (different u) (ids g.vertices)) ≡ true = ids_left x ∙ live in
      planes x (and-left _ _ (sym (member-filter (different u) (ids g.vertices) x) ∙ within)) (plane_left x within ∙ e)
