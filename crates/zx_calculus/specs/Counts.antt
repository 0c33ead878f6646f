-- How many vertices there are of a kind: the counts that bound simplification.
-- Kissinger and van de Wetering (arXiv 1903.10477, 2020), on the reduced gadget form.
use Rattle.std.specs.Prelude.{ℕ, Bool, not, ◌&&◌, length, filter}
use Rattle.zx_model.specs.Phase.{is_odd, sum_of_phases}
use Rattle.zx_model.specs.Bits.{member}
use Rattle.zx_calculus.specs.Graph.{Graph, end_vertices, is_XY, is_interior, phase_of}

-- how many interior vertices have an even phase
abbrev pub even_interior : Graph → ℕ
even_interior g = length (filter (λ v. is_interior g v.id && not (is_odd v.kind.phase)) g.vertices)

-- how many vertices have an odd phase
abbrev pub odd_phases : Graph → ℕ
odd_phases g = length (filter (λ v. is_odd v.kind.phase) g.vertices)

-- how many vertices aren't XY
abbrev pub not_XY : Graph → ℕ
not_XY g = length (filter (λ v. not (is_XY v.kind.plane)) g.vertices)

-- whether the vertex u holds an input, or an output
abbrev pub has_input : Graph → ℕ → Bool
has_input g u = member u (end_vertices g.inputs)

abbrev pub has_output : Graph → ℕ → Bool
has_output g u = member u (end_vertices g.outputs)

-- how many XY vertices hold no output
abbrev pub XY_without_output : Graph → ℕ
XY_without_output g = length (filter (λ v. is_XY v.kind.plane && not (has_output g v.id)) g.vertices)

-- whether it has an odd phase, or an even one
abbrev pub is_odd_at : Graph → ℕ → Bool
is_odd_at g u = is_odd (phase_of g u)

abbrev pub is_even_at : Graph → ℕ → Bool
is_even_at g u = not (is_odd_at g u)

-- whether it is interior and has an even one
abbrev pub is_even_interior : Graph → ℕ → Bool
is_even_interior g u = is_interior g u && is_even_at g u

-- whether the vertex v has an odd phase, or an even one, once that of u is added to its own
abbrev pub is_odd_fused : Graph → ℕ → ℕ → Bool
is_odd_fused g u v = is_odd (sum_of_phases (phase_of g v) (phase_of g u))

abbrev pub is_even_fused : Graph → ℕ → ℕ → Bool
is_even_fused g u v = not (is_odd_fused g u v)
