-- The lines of a graph as they are written, with ids replaced by their numbers.
use Rattle.std.specs.Prelude.{ℕ, Bool, ◌||◌, ◌++◌, List, [], codes, decimal, if◌then◌else◌, ltb, Option, None, Some}
use Rattle.std.specs.List.{flat_map}
use Rattle.zx_model.specs.Bits.{member}
use Rattle.zx_calculus.specs.Graph.{Graph, End, ids, plane_of, phase_of, end_vertices, in_order}
use Rattle.gflow_laws.specs.Flow.{Correction, order_of, set_of}
use Rattle.zx_text.specs.Lines.{plane_name, mark}
use Rattle.zx_text.specs.Numbered.{number_in}

-- a further part of a line
abbrev pub part : ℕ → List ℕ
part n = codes " " ++ decimal n

abbrev pub vertex_text : Graph → List ℕ → ℕ → List ℕ
vertex_text g used v =
    codes "vertex" ++ part (number_in used v) ++ codes " " ++ plane_name (plane_of g v) ++ part (phase_of g v) ++ codes "\n"

-- the edge from v to w, if that is higher
abbrev pub edge_text : List ℕ → ℕ → ℕ → List ℕ
edge_text used v w =
    if ltb v w then codes "edge" ++ part (number_in used v) ++ part (number_in used w) ++ codes "\n" else []

abbrev pub end_text : List ℕ → List ℕ → End → List ℕ
end_text kind used e = kind ++ part (number_in used e.vertex) ++ codes " " ++ mark e.hadamard ++ codes "\n"

abbrev pub correction_text : List ℕ → ℕ → List ℕ → List ℕ
correction_text used v set =
    codes "correct" ++ part (number_in used v) ++ flat_map (λ w. part (number_in used w)) set ++ codes "\n"

-- the set of v, where it has no output
abbrev pub set_text : Graph → List ℕ → List Correction → ℕ → List ℕ
set_text g used table v =
    if member v (end_vertices g.outputs) then [] else correction_text used v (set_of table v)

-- whether it rises, where v has no output
abbrev pub rises : Graph → List Correction → ℕ → Bool
rises g table v = member v (end_vertices g.outputs) || in_order ltb (set_of table v)

abbrev pub flow_text : Graph → List ℕ → List Correction → List ℕ
flow_text g used table =
    codes "flow\norder" ++ flat_map (λ v. part (number_in used v)) (order_of table) ++ codes "\n"
    ++ flat_map (set_text g used table) (ids g.vertices)

abbrev pub lent_text : Graph → List ℕ → Option (List Correction) → List ℕ
lent_text g used None = []
lent_text g used (Some table) = flow_text g used table
