-- Tables for the worked graphs, on which the definitions are tried.
use Rattle.std.specs.Prelude.{◌≡◌, ℕ, Bool, if◌then◌else◌, List, [], ◌∷◌, ◌++◌}
use Rattle.zx_calculus.specs.Graph.{Plane, XY, Edge, Graph, plain}
use Rattle.zx_calculus.specs.Worked.{vertex, edge, graph}
use Rattle.gflow_laws.specs.Seen.{Seen, seen}
use Rattle.gflow_laws.specs.Flow.{Correction, order_of, set_of, input_holds, order_holds, odd_holds, plane_holds}
use Rattle.gflow_laws.specs.Flow.{IsTableOf}

abbrev pub correct : ℕ → List ℕ → Correction
correct vertex members = record { vertex = vertex; members = members }

-- an input and an output, with these edges between them
abbrev pub two_ends : List Edge → Graph
two_ends edges = graph (vertex 0 XY 0 ∷ vertex 1 XY 0 ∷ []) edges (plain 0 ∷ []) (plain 1 ∷ [])

abbrev pub apart : Graph
apart = two_ends []

abbrev pub linked : Graph
linked = two_ends (edge 0 1 ∷ [])

-- the first is corrected by the second
abbrev pub first_by_second : List Correction
first_by_second = correct 0 (1 ∷ []) ∷ []

-- along a path of three, each is corrected by the next
abbrev pub path_table : List Correction
path_table = correct 0 (1 ∷ []) ∷ correct 1 (2 ∷ []) ∷ []

-- after a local complement about its middle
abbrev pub path_complemented_table : List Correction
path_complemented_table = correct 0 (1 ∷ []) ∷ correct 1 (2 ∷ 1 ∷ []) ∷ []

-- and after the middle was deleted
abbrev pub path_deleted_table : List Correction
path_deleted_table = correct 0 (2 ∷ []) ∷ []

-- along a path of four, each is corrected by the next
abbrev pub path_of_four_table : List Correction
path_of_four_table = correct 0 (1 ∷ []) ∷ correct 1 (2 ∷ []) ∷ correct 2 (3 ∷ []) ∷ []

-- after a pivot of its middle two the sets of 0, 1 and 2 are {1, 2}, {1, 2, 3} and {2, 3}
abbrev pub path_pivoted_table : List Correction
path_pivoted_table = correct 0 (2 ∷ 1 ∷ []) ∷ correct 1 (1 ∷ 3 ∷ 2 ∷ []) ∷ correct 2 (3 ∷ 2 ∷ []) ∷ []

-- a phase gadget is corrected by itself
abbrev pub by_itself : ℕ → Correction
by_itself v = correct v (v ∷ [])

-- the conditions of a flow on a vertex
pub data Condition : Type 0 where
  Input Order Odd : Condition
  PlaneOf : Plane → Condition

pub record Failure : Type 0 where
  pub vertex : ℕ
  pub condition : Condition

-- the failure of a test
abbrev pub fails_unless : Bool → ℕ → Condition → List Failure
fails_unless holds v condition = if holds then [] else record { vertex = v; condition = condition } ∷ []

-- the conditions that fail at v
abbrev pub failing_at : Seen → List Correction → ℕ → List Failure
failing_at s table v =
    fails_unless (input_holds s (set_of table v)) v Input
    ++ fails_unless (order_holds (order_of table) v (set_of table v)) v Order
    ++ fails_unless (odd_holds s (order_of table) v (set_of table v)) v Odd
    ++ fails_unless (plane_holds s (s.plane v) v (set_of table v)) v (PlaneOf (s.plane v))

abbrev pub failing_among : Seen → List Correction → List ℕ → List Failure
failing_among s table [] = []
failing_among s table (v ∷ vs) = failing_at s table v ++ failing_among s table vs

-- all conditions that fail, vertex by vertex
abbrev pub failing : Seen → List Correction → List Failure
failing s table = failing_among s table (order_of table)

-- order and vertices are right, and of all conditions this one alone fails, at v alone
pub record FailsAlone (g : Graph) (table : List Correction) (v : ℕ) (condition : Condition) : Type 0 where
  pub is_table : IsTableOf (seen g) table
  pub alone : failing (seen g) table ≡ record { vertex = v; condition = condition } ∷ []

-- a vertex beside one that has an input and an output
abbrev pub beside_a_wire : Graph
beside_a_wire = graph (vertex 0 XY 0 ∷ vertex 1 XY 0 ∷ []) (edge 0 1 ∷ []) (plain 1 ∷ []) (plain 1 ∷ [])

-- two adjacent vertices without ends, each corrected by the other
abbrev pub pair : Graph
pair = graph (vertex 0 XY 0 ∷ vertex 1 XY 0 ∷ []) (edge 0 1 ∷ []) [] []

abbrev pub each_by_the_other : List Correction
each_by_the_other = correct 0 (1 ∷ []) ∷ correct 1 (0 ∷ []) ∷ []

-- two inputs: output 2 is adjacent to both, output 3 to the first alone
abbrev pub shared_output : Graph
shared_output =
    graph (vertex 0 XY 0 ∷ vertex 1 XY 0 ∷ vertex 2 XY 0 ∷ vertex 3 XY 0 ∷ []) (edge 0 2 ∷ edge 0 3 ∷ edge 1 2 ∷ [])
    (plain 0 ∷ plain 1 ∷ []) (plain 2 ∷ plain 3 ∷ [])

-- a vertex of this plane beside an output
abbrev pub beside_an_output : Plane → Graph
beside_an_output plane = graph (vertex 0 plane 0 ∷ vertex 1 XY 0 ∷ []) (edge 0 1 ∷ []) [] (plain 1 ∷ [])

-- 0 is corrected by itself and 1
abbrev pub by_both : List Correction
by_both = correct 0 (0 ∷ 1 ∷ []) ∷ []

-- two outputs adjacent to 0, of which 1 is an input too
abbrev pub output_with_an_input : Graph
output_with_an_input =
    graph (vertex 0 XY 0 ∷ vertex 1 XY 0 ∷ vertex 2 XY 0 ∷ []) (edge 0 1 ∷ edge 0 2 ∷ []) (plain 1 ∷ [])
    (plain 1 ∷ plain 2 ∷ [])

-- two outputs that are adjacent, one of them adjacent to 0
abbrev pub adjacent_outputs : Graph
adjacent_outputs =
    graph (vertex 0 XY 0 ∷ vertex 1 XY 0 ∷ vertex 2 XY 0 ∷ []) (edge 0 1 ∷ edge 1 2 ∷ []) [] (plain 1 ∷ plain 2 ∷ [])
