-- Graphs that are given by which vertices are adjacent.
use Rattle.std.proofs.Common.{◌≡◌, ◌≢◌, refl, sym, ◌∙◌, ap, ap₂, ℕ, Bool, true, cond, not, ◌&&◌, ◌||◌, List, [], ◌∷◌, filter}
use Rattle.zx_model.specs.Bits.{member}
use Rattle.zx_calculus.specs.Graph.{is_interior, Graph, Interior, end_vertices, Edge, joined, OrderedEdges, ids, WellFormed, End, Vertex, Kind, without, with_kinds}
use Rattle.zx_calculus.specs.Adjacency.{edges_of}
use Rattle.zx_calculus.proofs.Ids.{not-true, or-right, or-left, by_test, and-right, and-left, Symmetric, apart_of_member}
use Rattle.zx_calculus.proofs.Edges.{joined_comm}
use Rattle.zx_calculus.proofs.Splitting.{joined-absent, member-without}
use Rattle.zx_calculus.proofs.EdgeLists.{joined-edges_of, under, OrderedEdges-edges_of, edges_ext}
use Rattle.zx_calculus.proofs.Vertices.{ids-with_kinds}

pub interior_true : (g : Graph) (u : ℕ) → Interior g u → is_interior g u ≡ true
interior_true g u c = ap₂ (λ a b. not (a || b)) c.no_input c.no_output

pub interior_from : (g : Graph) (u : ℕ) → is_interior g u ≡ true → Interior g u
interior_from g u h =
    record { no_input = or-left _ _ (not-true (member u (end_vertices g.inputs) || member u (end_vertices g.outputs)) h); no_output = or-right _ _ (not-true (member u (end_vertices g.inputs) || member u (end_vertices g.outputs)) h) }

pub filter_same : (p q : ℕ → Bool) (xs : List ℕ) → ((x : ℕ) → p x ≡ q x) → filter p xs ≡ filter q xs
filter_same p q [] h = refl
filter_same p q (x ∷ xs) h = ap₂ (λ b ys. cond b (x ∷ ys) ys) (h x) (filter_same p q xs h)

pub restrict : (vs : List ℕ) (es : List Edge) (p q : ℕ) → OrderedEdges vs es → joined es p q ≡ ((member p vs && member q vs) && joined es p q)
restrict vs es p q o =
    by_test (member p vs)
    (λ s. by_test (member q vs) (λ t. rw (s, t) refl)
    (λ f. rw (s, f) (joined_comm es p q ∙ joined-absent vs es q p o.lower_there o.higher_there f)))
    (λ f. rw f (joined-absent vs es p q o.lower_there o.higher_there f))

-- edges in order are those of their adjacency
pub edges_are : (h : Graph) (adjacent : ℕ → ℕ → Bool) → WellFormed h → Symmetric adjacent →
    ((p q : ℕ) → p ≢ q → member p (ids h.vertices) ≡ true → member q (ids h.vertices) ≡ true → joined h.edges p q ≡ adjacent p q) → h.edges ≡ edges_of adjacent (ids h.vertices)
edges_are h adjacent w s law =
    edges_ext h.edges (edges_of adjacent vs) w.edges.lower_first ordered.lower_first w.edges.rising ordered.rising
    (λ p q n. restrict vs h.edges p q w.edges
    ∙ under (member p vs && member q vs) (joined h.edges p q) (adjacent p q) (λ t. law p q n (and-left (member p vs) (member q vs) t) (and-right (member p vs) (member q vs) t))
    ∙ sym (joined-edges_of adjacent vs p q s n))
  where
    vs : List ℕ
    vs = ids h.vertices

    ordered : OrderedEdges (ids h.vertices) (edges_of adjacent (ids h.vertices))
    ordered = OrderedEdges-edges_of adjacent (ids h.vertices) w.vertices_rising

pub graph_is : (h : Graph) (vs : List Vertex) (adjacent : ℕ → ℕ → Bool) (inputs outputs : List End) → h.vertices ≡ vs → h.edges ≡ edges_of adjacent (ids h.vertices) → h.inputs ≡ inputs → h.outputs ≡ outputs →
    h ≡ record { vertices = vs; edges = edges_of adjacent (ids vs); inputs = inputs; outputs = outputs }
graph_is h vs adjacent inputs outputs vertices edges ins outs =
    λ j. record { vertices = vertices j; edges = (edges ∙ ap (λ ws. edges_of adjacent (ids ws)) vertices) j; inputs = ins j; outputs = outs j }

-- a vertex that went isn't there
pub gone : (f : ℕ → Kind → Kind) (u : ℕ) (vs ws : List Vertex) (p : ℕ) → ws ≡ with_kinds f (without u vs) → member p (ids ws) ≡ true → p ≢ u
gone f u vs ws p e t =
    apart_of_member p u (ids ws) t (ap (λ w. member u (ids w)) e ∙ ap (member u) (ids-with_kinds f (without u vs)) ∙ member-without u vs)

pub gone_plain : (u : ℕ) (vs ws : List Vertex) (p : ℕ) → ws ≡ without u vs → member p (ids ws) ≡ true → p ≢ u
gone_plain u vs ws p e t = apart_of_member p u (ids ws) t (ap (λ w. member u (ids w)) e ∙ member-without u vs)
