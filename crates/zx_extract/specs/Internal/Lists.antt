-- Lists of ends, the outputs next to a vertex, and the last correction of a table.
use Rattle.std.specs.Prelude.{◌≡◌, ℕ, ◌-◌, Bool, false, if◌then◌else◌, ltb, List, [], ◌∷◌, slice_get, Some, map, filter}
use Rattle.zx_calculus.specs.Graph.{End, Graph, joined, end_vertices, plain}
use Rattle.gflow_laws.specs.Flow.{Correction, is_in}

-- the end at this place is plain
abbrev pub IsPlainAt : List End → ℕ → Type 0
IsPlainAt ends p = (e : End) → slice_get ends p ≡ Some e → e.hadamard ≡ false

-- the graph with its outputs at these vertices, all of them plain
abbrev pub with_outputs : List ℕ → Graph → Graph
with_outputs vertices g = record g { outputs = map plain vertices }

-- the graph with each output at the vertex of the input of its number
abbrev pub in_line : Graph → Graph
in_line g = with_outputs (end_vertices g.inputs) g

-- the vertices of outputs that are next to v: the legs of a gadget
abbrev pub legs_of : Graph → ℕ → List ℕ
legs_of g v = filter (joined g.edges v) (end_vertices g.outputs)

-- whether a vertex is in the last set
abbrev pub last_set : List Correction → ℕ → Bool
last_set [] u = false
last_set (e ∷ []) u = is_in e.members u
last_set (d ∷ (e ∷ es)) u = last_set (e ∷ es) u

-- how many of the numbers below i aren't q
abbrev pub others_below : ℕ → ℕ → ℕ
others_below q i = if ltb q i then i - 1 else i
