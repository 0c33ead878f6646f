-- The parts of a summand, in another order.
use Rattle.std.proofs.Common.{◌≡◌, sym, ◌∙◌, ap, List}
use Rattle.zx_model.specs.Number.{Number, mul}
use Rattle.zx_model.proofs.Ring.{sorted}
use Rattle.zx_calculus.specs.Graph.{Edge, Graph, Vertex}
use Rattle.zx_calculus.specs.Edits.{KeepsEnds}

-- the graph with other vertices and edges
abbrev pub with_parts : Graph → List Vertex → List Edge → Graph
with_parts g vs es = record { vertices = vs; edges = es; inputs = g.inputs; outputs = g.outputs }

pub parts_are : (g h : Graph) (vs : List Vertex) → h.vertices ≡ vs → KeepsEnds g h → h ≡ with_parts g vs h.edges
parts_are g h vs vertices frame = λ j. record { vertices = vertices j; edges = h.edges; inputs = frame.inputs j; outputs = frame.outputs j }

pub gather : (l r c t t' p p' k s q n e : Number) → mul l t ≡ mul r (mul s t') → mul c p' ≡ mul k p → mul k n ≡ s →
    mul l (mul t (mul p (mul q e))) ≡ mul (mul r c) (mul t' (mul p' (mul (mul q n) e)))
gather l r c t t' p p' k s q n e about product turns =
    one_way l t p q e ∙ ap (λ z. mul z (mul p (mul q e))) (about ∙ ap (λ z. mul r (mul z t')) (sym turns))
    ∙ other_way r k n t' p q e ∙ ap (λ z. mul z (mul (mul r t') (mul n (mul q e)))) (sym product) ∙ back c p' r t' n q e
  where
    one_way : (l t p q e : Number) → mul l (mul t (mul p (mul q e))) ≡ mul (mul l t) (mul p (mul q e))
    one_way l t p q e = simp sorted

    other_way : (r k n t' p q e : Number) → mul (mul r (mul (mul k n) t')) (mul p (mul q e)) ≡ mul (mul k p) (mul (mul r t') (mul n (mul q e)))
    other_way r k n t' p q e = simp sorted

    back : (c p' r t' n q e : Number) → mul (mul c p') (mul (mul r t') (mul n (mul q e))) ≡ mul (mul r c) (mul t' (mul p' (mul (mul q n) e)))
    back c p' r t' n q e = simp sorted
