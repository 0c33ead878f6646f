-- How many ids a graph needs, with the splits that are still to come: one for each vertex, and one more where a vertex
-- has both an input and an output, since a split gives one of the two to a new vertex.
use Rattle.std.specs.Prelude.{◌+◌, ℕ, Bool, ◌&&◌, length, filter}
use Rattle.zx_calculus.specs.Graph.{Graph}
use Rattle.zx_calculus.specs.Counts.{has_input, has_output}
use Rattle.zx_calculus.specs.Steps.{Step, LocalComplement, Delete, Pivot, SplitInput, SplitOutput}
use Rattle.zx_calculus.specs.Steps.{DropLone, FuseInto, FuseTwin}

-- whether the vertex u holds an input and an output
abbrev pub has_both : Graph → ℕ → Bool
has_both g u = has_input g u && has_output g u

-- how many vertices hold both
abbrev pub with_both : Graph → ℕ
with_both g = length (filter (λ v. has_both g v.id) g.vertices)

abbrev pub demand : Graph → ℕ
demand g = length g.vertices + with_both g

-- how many vertices a step takes out
abbrev pub taken_out : Step → ℕ
taken_out (LocalComplement u) = 0
taken_out (Delete u) = 1
taken_out (Pivot u v) = 0
taken_out (SplitInput b) = 0
taken_out (SplitOutput b) = 0
taken_out (DropLone u) = 1
taken_out (FuseInto u) = 1
taken_out (FuseTwin u v) = 1
