-- How large the scalar of moves is.
use Rattle.std.specs.Prelude.{ℕ, ◌*◌, length}
use Rattle.zx_calculus.specs.Graph.{Graph}

-- the greatest exponent of the root of two for moves from g on: two for each of six steps of a move
abbrev pub most_exponent : Graph → ℕ
most_exponent g = 36 * length g.vertices
