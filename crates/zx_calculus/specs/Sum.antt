-- The linear map of an open graph, as a sum over labels (a path sum).
-- A vertex in the XY plane is a Z spider; one in the YZ plane is a phase gadget; one in the XZ plane is a
-- vertex with the effect of that plane. Backens and others (Quantum 5, 421, 2021), and
-- Kissinger and van de Wetering, "Reducing T-count with the ZX-calculus" (arXiv 1903.10477, 2020).
-- The scalar of the XZ plane is a convention of this project.
use Rattle.std.specs.Prelude.{ℕ, Bool, if◌then◌else◌, ◌&&◌, List, [], ◌∷◌, map, length}
use Rattle.zx_model.specs.Phase.{quarter_turn}
use Rattle.zx_model.specs.Number.{Number, zero, one, add, mul, root_power, sign}
use Rattle.zx_model.specs.Bits.{xor}
use Rattle.zx_model.specs.Sums.{total, all_labels, label_of}
use Rattle.zx_calculus.specs.Graph.{Plane, XY, XZ, YZ, Kind, Vertex, Edge, End, Graph, ids}

-- the power z^(k*h)
abbrev pub spider : ℕ → Bool → Number
spider k h = if h then root_power k else one

-- the factor of a vertex with label h: z^(k*h) in XY, 1+(-1)^h*z^k in YZ, (1+(-1)^h*z^k)*i^h in XZ
abbrev pub factor_in : Plane → ℕ → Bool → Number
factor_in XY k h = spider k h
factor_in YZ k h = add one (mul (sign h) (root_power k))
factor_in XZ k h = mul (add one (mul (sign h) (root_power k))) (spider quarter_turn h)

abbrev pub factor : Kind → Bool → Number
factor kind h = factor_in kind.plane kind.phase h

abbrev pub vertex_product : List Vertex → (ℕ → Bool) → Number
vertex_product [] label = one
vertex_product (v ∷ vs) label = mul (factor v.kind (label v.id)) (vertex_product vs label)

-- -1 for each edge with both labels 1
abbrev pub edge_product : List Edge → (ℕ → Bool) → Number
edge_product [] label = one
edge_product (e ∷ es) label = mul (sign (label e.lower && label e.higher)) (edge_product es label)

-- a plain end gives 1 where label and bit are equal, else 0; one with a Hadamard gives (-1)^(label*bit)
abbrev pub end_factor : Bool → Bool → Bool → Number
end_factor hadamard label bit = if hadamard then sign (label && bit) else if xor label bit then zero else one

abbrev pub end_product : List End → List Bool → (ℕ → Bool) → Number
end_product [] bits label = one
end_product (e ∷ es) [] label = one
end_product (e ∷ es) (b ∷ bits) label = mul (end_factor e.hadamard (label e.vertex) b) (end_product es bits label)

-- the summand of one choice of labels, for input bits x and output bits y
abbrev pub term : Graph → List Bool → List Bool → (ℕ → Bool) → Number
term g x y label =
    mul (vertex_product g.vertices label)
    (mul (edge_product g.edges label) (mul (end_product g.inputs x label) (end_product g.outputs y label)))

-- the sum over all labels of the vertices
abbrev pub graph_sum : Graph → List Bool → List Bool → Number
graph_sum g x y = total (map (λ hs. term g x y (label_of (ids g.vertices) hs)) (all_labels (length g.vertices)))
