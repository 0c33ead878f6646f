-- What the sum loses where a vertex goes.
use Rattle.std.proofs.Common.{◌≡◌, ◌≢◌, sym, ◌∙◌, ap, subst, ℕ, Bool, List}
use Rattle.zx_model.specs.Number.{Number, mul, one, sign}
use Rattle.zx_model.specs.Sums.{sum_over}
use Rattle.zx_model.proofs.Ring.{sorted}
use Rattle.zx_model.proofs.SumLemmas.{sum_over_same, sum_over_scaled}
use Rattle.zx_calculus.specs.Graph.{Kind, joined, without, with_kinds, IsVertex, Graph, Interior, kind_of, WellFormed, ids, Vertex}
use Rattle.zx_calculus.specs.Edits.{KeepsEnds}
use Rattle.zx_calculus.specs.Parity.{masked}
use Rattle.zx_calculus.specs.Internal.Pairs.{quad}
use Rattle.zx_calculus.specs.Sum.{graph_sum, vertex_product}
use Rattle.zx_calculus.proofs.Vertices.{ids-with_kinds}
use Rattle.zx_calculus.proofs.Ids.{apart_of_member}
use Rattle.zx_calculus.proofs.Forms.{at_ends, sum_is_form, transform}
use Rattle.zx_calculus.proofs.Gathering.{with_parts, parts_are}
use Rattle.zx_calculus.proofs.Edges.{quad_same}
use Rattle.zx_calculus.proofs.Splitting.{member-without, distinct_without, sum_without}

scale_out : (r t p p' q e : Number) → mul t p ≡ mul r p' → mul one (mul t (mul p (mul q e))) ≡ mul r (mul p' (mul q e))
scale_out r t p p' q e here = one_way t p q e ∙ ap (λ z. mul z (mul q e)) here ∙ back r p' q e
  where
    one_way : (t p q e : Number) → mul one (mul t (mul p (mul q e))) ≡ mul (mul t p) (mul q e)
    one_way t p q e = simp sorted

    back : (r p' q e : Number) → mul (mul r p') (mul q e) ≡ mul r (mul p' (mul q e))
    back r p' q e = simp sorted

-- u went, and the kinds of the others changed
pub record Removal (g : Graph) (u : ℕ) (change : ℕ → Kind → Kind) (h : Graph) : Type 0 where
  pub there : IsVertex g u
  pub interior : Interior g u
  pub vertices : h.vertices ≡ with_kinds change (without u g.vertices)
  pub edges : (p q : ℕ) → p ≢ u → q ≢ u → joined h.edges p q ≡ joined g.edges p q
  pub frame : KeepsEnds g h

module _ (g : Graph) (u : ℕ) (change : ℕ → Kind → Kind) (h : Graph) (wg : WellFormed g) (wh : WellFormed h) (c : Removal g u change h) where
  abbrev pub ws : List Vertex
  ws = without u g.vertices

  abbrev changed : List Vertex
  changed = with_kinds change ws

  same_shape : h ≡ with_parts g changed h.edges
  same_shape = parts_are g h changed c.vertices c.frame

  pub removal_after : (x y : List Bool) → graph_sum h x y ≡ sum_over (ids ws) (λ label. mul (vertex_product changed label) (mul (sign (quad (joined g.edges) (ids ws) label)) (at_ends g.inputs g.outputs x y label)))
  removal_after x y =
      ap (λ k. graph_sum k x y) same_shape
      ∙ sum_is_form (with_parts g changed h.edges) x y (subst WellFormed same_shape wh)
      ∙ ap (λ is. sum_over is (λ label. mul (vertex_product changed label) (mul (sign (quad (joined h.edges) is label)) (at_ends g.inputs g.outputs x y label)))) (ids-with_kinds change ws)
      ∙ sum_over_same (ids ws) _ _
      (λ label. ap (λ b. mul (vertex_product changed label) (mul (sign b) (at_ends g.inputs g.outputs x y label)))
      (quad_same (joined h.edges) (joined g.edges) (ids ws) label (distinct_without g u wg)
      (λ p q s t n. c.edges p q (apart_of_member p u (ids ws) s (member-without u g.vertices)) (apart_of_member q u (ids ws) t (member-without u g.vertices)))))

  pub removal_sum : (right : Number) (x y : List Bool) →
      ((label : ℕ → Bool) → mul (transform (kind_of g.vertices u) (masked (joined g.edges u) (ids (without u g.vertices)) label)) (vertex_product (without u g.vertices) label)
      ≡ mul right (vertex_product (with_kinds change (without u g.vertices)) label)) →
      mul one (graph_sum g x y) ≡ mul right (graph_sum h x y)
  removal_sum right x y law =
      ap (mul one) (sum_without g u x y wg c.there c.interior)
      ∙ sum_over_scaled one right (ids ws) _ _ (λ label. scale_out right _ _ _ _ _ (law label))
      ∙ ap (mul right) (sym (removal_after x y))
