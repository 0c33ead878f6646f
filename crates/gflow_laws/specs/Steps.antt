-- What each rewrite of a graph makes of a flow of it.
use Rattle.std.specs.Prelude.{List}
use Rattle.zx_calculus.specs.Graph.{Graph}
use Rattle.zx_calculus.specs.Steps.{Step, LocalComplement, Delete, Pivot, SplitInput, SplitOutput, DropLone, FuseInto}
use Rattle.zx_calculus.specs.Steps.{FuseTwin}
use Rattle.zx_calculus.specs.Splits.{new_vertex}
use Rattle.gflow_laws.specs.Seen.{seen}
use Rattle.gflow_laws.specs.Flow.{Correction}
pub use Rattle.gflow_laws.specs.Complements.{complement_table}
pub use Rattle.gflow_laws.specs.Pivots.{pivot_table}
pub use Rattle.gflow_laws.specs.Removals.{removal_table}
pub use Rattle.gflow_laws.specs.Splits.{split_input_table, split_output_table}

-- the flow after a step of g
abbrev pub table_after : Graph → Step → List Correction → List Correction
table_after g (LocalComplement u) table = complement_table (seen g) u table
table_after g (Delete u) table = removal_table u table
table_after g (Pivot u v) table = pivot_table (seen g) u v table
table_after g (SplitInput b) table = split_input_table b (new_vertex g) table
table_after g (SplitOutput b) table = split_output_table b (new_vertex g) table
table_after g (DropLone u) table = removal_table u table
table_after g (FuseInto u) table = removal_table u table
table_after g (FuseTwin u v) table = removal_table v table
