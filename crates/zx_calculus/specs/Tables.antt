-- Tables of the factors of a vertex, computed apart from the definitions, and sums of small graphs.
use Rattle.std.specs.Prelude.{ℕ, ℤ, pos, negsuc, true, List, [], ◌∷◌, ◌++◌}
use Rattle.zx_model.specs.Number.{Number, one}
use Rattle.zx_calculus.specs.Graph.{XY, Graph, plain}
use Rattle.zx_calculus.specs.Worked.{vertex, edge, graph}

-- a + b*z + c*z^2 + .. + h*z^7, with z*z = w
abbrev pub number : ℤ → ℤ → ℤ → ℤ → ℤ → ℤ → ℤ → ℤ → Number
number a b c d e f g h = record {
  plain = record { c0 = a; c1 = c; c2 = e; c3 = g };
  turned = record { c0 = b; c1 = d; c2 = f; c3 = h };
}

abbrev pub all_phases : List ℕ
all_phases = 0 ∷ 1 ∷ 2 ∷ 3 ∷ 4 ∷ 5 ∷ 6 ∷ 7 ∷ 8 ∷ 9 ∷ 10 ∷ 11 ∷ 12 ∷ 13 ∷ 14 ∷ 15 ∷ []

-- labels 0 in XY, at each phase
abbrev pub factors_XY_0 : List Number
factors_XY_0 =
    one ∷ one ∷ one ∷ one ∷ one ∷ one ∷ one ∷ one ∷ one ∷ one ∷ one ∷ one ∷ one ∷ one ∷ one ∷ one ∷ []

-- labels 1 in XY, at each phase: the powers of z
abbrev pub factors_XY_1 : List Number
factors_XY_1 =
    number (pos 1) (pos 0) (pos 0) (pos 0) (pos 0) (pos 0) (pos 0) (pos 0)
    ∷ number (pos 0) (pos 1) (pos 0) (pos 0) (pos 0) (pos 0) (pos 0) (pos 0)
    ∷ number (pos 0) (pos 0) (pos 1) (pos 0) (pos 0) (pos 0) (pos 0) (pos 0)
    ∷ number (pos 0) (pos 0) (pos 0) (pos 1) (pos 0) (pos 0) (pos 0) (pos 0)
    ∷ number (pos 0) (pos 0) (pos 0) (pos 0) (pos 1) (pos 0) (pos 0) (pos 0)
    ∷ number (pos 0) (pos 0) (pos 0) (pos 0) (pos 0) (pos 1) (pos 0) (pos 0)
    ∷ number (pos 0) (pos 0) (pos 0) (pos 0) (pos 0) (pos 0) (pos 1) (pos 0)
    ∷ number (pos 0) (pos 0) (pos 0) (pos 0) (pos 0) (pos 0) (pos 0) (pos 1)
    ∷ number (negsuc 0) (pos 0) (pos 0) (pos 0) (pos 0) (pos 0) (pos 0) (pos 0)
    ∷ number (pos 0) (negsuc 0) (pos 0) (pos 0) (pos 0) (pos 0) (pos 0) (pos 0)
    ∷ number (pos 0) (pos 0) (negsuc 0) (pos 0) (pos 0) (pos 0) (pos 0) (pos 0)
    ∷ number (pos 0) (pos 0) (pos 0) (negsuc 0) (pos 0) (pos 0) (pos 0) (pos 0)
    ∷ number (pos 0) (pos 0) (pos 0) (pos 0) (negsuc 0) (pos 0) (pos 0) (pos 0)
    ∷ number (pos 0) (pos 0) (pos 0) (pos 0) (pos 0) (negsuc 0) (pos 0) (pos 0)
    ∷ number (pos 0) (pos 0) (pos 0) (pos 0) (pos 0) (pos 0) (negsuc 0) (pos 0)
    ∷ number (pos 0) (pos 0) (pos 0) (pos 0) (pos 0) (pos 0) (pos 0) (negsuc 0) ∷ []

-- 1 + z^k for each k below 8, and 1 - z^k
abbrev pub one_plus_powers : List Number
one_plus_powers =
    number (pos 2) (pos 0) (pos 0) (pos 0) (pos 0) (pos 0) (pos 0) (pos 0)
    ∷ number (pos 1) (pos 1) (pos 0) (pos 0) (pos 0) (pos 0) (pos 0) (pos 0)
    ∷ number (pos 1) (pos 0) (pos 1) (pos 0) (pos 0) (pos 0) (pos 0) (pos 0)
    ∷ number (pos 1) (pos 0) (pos 0) (pos 1) (pos 0) (pos 0) (pos 0) (pos 0)
    ∷ number (pos 1) (pos 0) (pos 0) (pos 0) (pos 1) (pos 0) (pos 0) (pos 0)
    ∷ number (pos 1) (pos 0) (pos 0) (pos 0) (pos 0) (pos 1) (pos 0) (pos 0)
    ∷ number (pos 1) (pos 0) (pos 0) (pos 0) (pos 0) (pos 0) (pos 1) (pos 0)
    ∷ number (pos 1) (pos 0) (pos 0) (pos 0) (pos 0) (pos 0) (pos 0) (pos 1) ∷ []

abbrev pub one_minus_powers : List Number
one_minus_powers =
    number (pos 0) (pos 0) (pos 0) (pos 0) (pos 0) (pos 0) (pos 0) (pos 0)
    ∷ number (pos 1) (negsuc 0) (pos 0) (pos 0) (pos 0) (pos 0) (pos 0) (pos 0)
    ∷ number (pos 1) (pos 0) (negsuc 0) (pos 0) (pos 0) (pos 0) (pos 0) (pos 0)
    ∷ number (pos 1) (pos 0) (pos 0) (negsuc 0) (pos 0) (pos 0) (pos 0) (pos 0)
    ∷ number (pos 1) (pos 0) (pos 0) (pos 0) (negsuc 0) (pos 0) (pos 0) (pos 0)
    ∷ number (pos 1) (pos 0) (pos 0) (pos 0) (pos 0) (negsuc 0) (pos 0) (pos 0)
    ∷ number (pos 1) (pos 0) (pos 0) (pos 0) (pos 0) (pos 0) (negsuc 0) (pos 0)
    ∷ number (pos 1) (pos 0) (pos 0) (pos 0) (pos 0) (pos 0) (pos 0) (negsuc 0) ∷ []

-- labels 0 in YZ, at each phase
abbrev pub factors_YZ_0 : List Number
factors_YZ_0 = one_plus_powers ++ one_minus_powers

-- labels 1 in YZ, at each phase
abbrev pub factors_YZ_1 : List Number
factors_YZ_1 = one_minus_powers ++ one_plus_powers

-- labels 0 in XZ, at each phase: the same as in YZ
abbrev pub factors_XZ_0 : List Number
factors_XZ_0 = factors_YZ_0

-- labels 1 in XZ, at each phase
abbrev pub factors_XZ_1 : List Number
factors_XZ_1 =
    number (pos 0) (pos 0) (pos 0) (pos 0) (pos 0) (pos 0) (pos 0) (pos 0)
    ∷ number (pos 0) (pos 0) (pos 0) (pos 0) (pos 1) (negsuc 0) (pos 0) (pos 0)
    ∷ number (pos 0) (pos 0) (pos 0) (pos 0) (pos 1) (pos 0) (negsuc 0) (pos 0)
    ∷ number (pos 0) (pos 0) (pos 0) (pos 0) (pos 1) (pos 0) (pos 0) (negsuc 0)
    ∷ number (pos 1) (pos 0) (pos 0) (pos 0) (pos 1) (pos 0) (pos 0) (pos 0)
    ∷ number (pos 0) (pos 1) (pos 0) (pos 0) (pos 1) (pos 0) (pos 0) (pos 0)
    ∷ number (pos 0) (pos 0) (pos 1) (pos 0) (pos 1) (pos 0) (pos 0) (pos 0)
    ∷ number (pos 0) (pos 0) (pos 0) (pos 1) (pos 1) (pos 0) (pos 0) (pos 0)
    ∷ number (pos 0) (pos 0) (pos 0) (pos 0) (pos 2) (pos 0) (pos 0) (pos 0)
    ∷ number (pos 0) (pos 0) (pos 0) (pos 0) (pos 1) (pos 1) (pos 0) (pos 0)
    ∷ number (pos 0) (pos 0) (pos 0) (pos 0) (pos 1) (pos 0) (pos 1) (pos 0)
    ∷ number (pos 0) (pos 0) (pos 0) (pos 0) (pos 1) (pos 0) (pos 0) (pos 1)
    ∷ number (negsuc 0) (pos 0) (pos 0) (pos 0) (pos 1) (pos 0) (pos 0) (pos 0)
    ∷ number (pos 0) (negsuc 0) (pos 0) (pos 0) (pos 1) (pos 0) (pos 0) (pos 0)
    ∷ number (pos 0) (pos 0) (negsuc 0) (pos 0) (pos 1) (pos 0) (pos 0) (pos 0)
    ∷ number (pos 0) (pos 0) (pos 0) (negsuc 0) (pos 1) (pos 0) (pos 0) (pos 0) ∷ []

-- two spiders joined by an edge: a Hadamard gate
abbrev pub hadamard_wire : Graph
hadamard_wire = graph (vertex 0 XY 0 ∷ vertex 1 XY 0 ∷ []) (edge 0 1 ∷ []) (plain 0 ∷ []) (plain 1 ∷ [])

-- two wires with an edge between them: a controlled Z
abbrev pub controlled_z : Graph
controlled_z =
    graph (vertex 0 XY 0 ∷ vertex 1 XY 0 ∷ []) (edge 0 1 ∷ []) (plain 0 ∷ plain 1 ∷ []) (plain 0 ∷ plain 1 ∷ [])

-- two wires that cross
abbrev pub crossing : Graph
crossing = graph (vertex 0 XY 0 ∷ vertex 1 XY 0 ∷ []) [] (plain 0 ∷ plain 1 ∷ []) (plain 1 ∷ plain 0 ∷ [])

-- a spider with a Hadamard on its output
abbrev pub marked_spider : ℕ → Graph
marked_spider k = graph (vertex 0 XY k ∷ []) [] (plain 0 ∷ []) (record { vertex = 0; hadamard = true } ∷ [])
