-- Planes and phases changed vertex by vertex.
use Rattle.std.proofs.Common.{◌≡◌, refl, sym, ◌∙◌, ap, ap₂, subst, ℕ, true, cond, ltb, ne_eqb, List, [], ◌∷◌}
use Rattle.zx_model.specs.Bits.{member}
use Rattle.zx_calculus.specs.Graph.{Kind, Vertex, Graph, ids, kind_of, with_kinds, insert_vertex, Distinct, IsVertex, OrderedEdges}
use Rattle.zx_calculus.specs.Edits.{KeepsEnds}
use Rattle.zx_calculus.proofs.Ids.{by_test, eqb-self, member-here, member-there, apart_of_member}
use Rattle.zx_calculus.proofs.Vertices.{ids-with_kinds, with_kinds_same}
use Rattle.zx_calculus.specs.Internal.ChangedKinds.{with_changed}

pub with_kinds-with_kinds : (f g : ℕ → Kind → Kind) (vs : List Vertex) →
    with_kinds f (with_kinds g vs) ≡ with_kinds (λ p k. f p (g p k)) vs
with_kinds-with_kinds f g [] = refl
with_kinds-with_kinds f g (v ∷ vs) =
    ap (λ ws. record { id = v.id; kind = f v.id (g v.id v.kind) } ∷ ws) (with_kinds-with_kinds f g vs)

-- a change at each vertex's own kind
pub with_kinds_at : (f k : ℕ → Kind → Kind) (vs : List Vertex) → Distinct (ids vs) →
    ((p : ℕ) → member p (ids vs) ≡ true → f p (kind_of vs p) ≡ k p (kind_of vs p)) → with_kinds f vs ≡ with_kinds k vs
with_kinds_at f k [] d same = refl
with_kinds_at f k (v ∷ vs) d same =
    ap₂ (λ kind rest. record { id = v.id; kind = kind } ∷ rest)
    (subst (λ kind. f v.id kind ≡ k v.id kind) (ap (λ b. cond b v.kind (kind_of vs v.id)) (eqb-self v.id)) (same v.id (member-here v.id (ids vs))))
    (with_kinds_at f k vs d.1
    (λ p there. subst (λ kind. f p kind ≡ k p kind)
    (ap (λ b. cond b v.kind (kind_of vs p)) (ne_eqb p v.id (apart_of_member p v.id (ids vs) there d.0))) (same p (member-there p v.id (ids vs) there))))

pub with_kinds-insert : (f : ℕ → Kind → Kind) (n : Vertex) (vs : List Vertex) →
    with_kinds f (insert_vertex n vs) ≡ insert_vertex (record { id = n.id; kind = f n.id n.kind }) (with_kinds f vs)
with_kinds-insert f n [] = refl
with_kinds-insert f n (v ∷ vs) =
    by_test (ltb n.id v.id) (λ t. rw t refl)
    (λ t. rw t (ap (λ rest. record { id = v.id; kind = f v.id v.kind } ∷ rest) (with_kinds-insert f n vs)))

-- ends and the order of edges stay, whatever planes and phases become
pub KeepsEnds-changed : (f : ℕ → Kind → Kind) (g h : Graph) → KeepsEnds g h → KeepsEnds g (with_changed f h)
KeepsEnds-changed f g h c = record {
  ordered = subst (λ vs. OrderedEdges vs h.edges) (sym (ids-with_kinds f h.vertices)) c.ordered;
  inputs = c.inputs;
  outputs = c.outputs;
}

-- two changes, one after the other
pub changed_twice : (f g all : ℕ → Kind → Kind) (h : Graph) → ((p : ℕ) (k : Kind) → f p (g p k) ≡ all p k) →
    with_changed f (with_changed g h) ≡ with_changed all h
changed_twice f g all h same =
    ap (λ vs. record h { vertices = vs })
    (with_kinds-with_kinds f g h.vertices ∙ with_kinds_same (λ p k. f p (g p k)) all h.vertices (λ p k t. same p k))

pub turned_live : (f : ℕ → Kind → Kind) (g h : Graph) (p : ℕ) → h ≡ with_changed f g → IsVertex g p → IsVertex h p
turned_live f g h p e there = ap (λ l. member p (ids l.vertices)) e ∙ ap (member p) (ids-with_kinds f g.vertices)
    ∙ there
