-- The scalar of each rewrite as two numbers, over which its identity of sums is proved: one times the sum before is the
-- other times the sum after.
use Rattle.std.proofs.Common.{◌≡◌, ℕ, Bool, cond, ◌&&◌, eqb, List, [], ◌∷◌, length}
use Rattle.zx_model.specs.Number.{Number, one, add, neg, mul, root_power}
use Rattle.zx_model.specs.Constants.{two, i}
use Rattle.zx_model.specs.Phase.{half_turn}
use Rattle.zx_calculus.specs.Graph.{Graph, Plane, XY, XZ, YZ, Kind, Vertex, joined, plane_of, phase_of}
use Rattle.zx_calculus.specs.Sum.{graph_sum}
use Rattle.zx_calculus.specs.Splits.{mark_of}
use Rattle.zx_calculus.specs.Steps.{Step, LocalComplement, Delete, Pivot, SplitInput, SplitOutput, DropLone, FuseInto, FuseTwin}

abbrev pub one_plus_i : Number
one_plus_i = add one i

abbrev pub one_minus_i : Number
one_minus_i = add one (neg i)

-- of a quarter turn
abbrev pub quarter_cost_in : Plane → ℕ → Number
quarter_cost_in XY k = one
quarter_cost_in YZ k = one
quarter_cost_in XZ k = root_power k

abbrev pub quarter_cost : Kind → Number
quarter_cost kind = quarter_cost_in kind.plane kind.phase

-- of a half turn
abbrev pub half_cost_in : Plane → ℕ → Number
half_cost_in XY k = one
half_cost_in YZ k = root_power k
half_cost_in XZ k = root_power k

abbrev pub half_cost : Kind → Number
half_cost kind = half_cost_in kind.plane kind.phase

-- the product over those vertices that `near` picks
abbrev pub product_of : (ℕ → Bool) → (Kind → Number) → List Vertex → Number
product_of near cost [] = one
product_of near cost (v ∷ vs) = mul (cond (near v.id) (cost v.kind) one) (product_of near cost vs)

-- a local complement: before, and after of the vertex itself and with its neighbours
abbrev pub complement_left_in : Plane → Number
complement_left_in XY = one_plus_i
complement_left_in XZ = one
complement_left_in YZ = one

abbrev pub complement_right_in : Plane → ℕ → Number
complement_right_in XY k = one
complement_right_in XZ k = mul one_minus_i (root_power k)
complement_right_in YZ k = one

abbrev pub complement_right : Graph → ℕ → Number
complement_right g u =
    mul (complement_right_in (plane_of g u) (phase_of g u)) (product_of (joined g.edges u) quarter_cost g.vertices)

-- a deletion, after
abbrev pub delete_half_in : Plane → Number
delete_half_in XY = two
delete_half_in XZ = mul two i
delete_half_in YZ = two

abbrev pub delete_right : Graph → ℕ → Number
delete_right g u =
    cond (eqb (phase_of g u) half_turn)
    (mul (delete_half_in (plane_of g u)) (product_of (joined g.edges u) half_cost g.vertices)) two

-- a pivot, after, of each of the two vertices and with their common neighbours
abbrev pub pivot_right_in : Plane → ℕ → Number
pivot_right_in XY k = one
pivot_right_in XZ k = mul one_minus_i (root_power k)
pivot_right_in YZ k = two

abbrev pub pivot_right : Graph → ℕ → ℕ → Number
pivot_right g u v =
    mul (mul (pivot_right_in (plane_of g u) (phase_of g u)) (pivot_right_in (plane_of g v) (phase_of g v)))
    (product_of (λ p. joined g.edges u p && joined g.edges v p) half_cost g.vertices)

-- a split, before
abbrev pub split_left : Bool → Number
split_left hadamard = cond hadamard one two

-- what the sum before is multiplied by
abbrev pub left_factor : Graph → Step → Number
left_factor g (LocalComplement u) = complement_left_in (plane_of g u)
left_factor g (Delete u) = one
left_factor g (Pivot u v) = two
left_factor g (SplitInput b) = split_left (mark_of g.inputs b)
left_factor g (SplitOutput b) = split_left (mark_of g.outputs b)
left_factor g (DropLone u) = one
left_factor g (FuseInto u) = one
left_factor g (FuseTwin u v) = one

-- what the sum after is multiplied by
abbrev pub right_factor : Graph → Step → Number
right_factor g (LocalComplement u) = complement_right g u
right_factor g (Delete u) = delete_right g u
right_factor g (Pivot u v) = pivot_right g u v
right_factor g (SplitInput b) = one
right_factor g (SplitOutput b) = one
right_factor g (DropLone u) = two
right_factor g (FuseInto u) = two
right_factor g (FuseTwin u v) = two

-- the left factor of the step times the sum of g is its right factor times the sum of h
abbrev pub IsExact : Graph → Step → Graph → Type 0
IsExact g s h = (x y : List Bool) → length x ≡ length g.inputs → length y ≡ length g.outputs →
    mul (left_factor g s) (graph_sum g x y) ≡ mul (right_factor g s) (graph_sum h x y)
