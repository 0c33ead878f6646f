-- The laws, by their lemmas.
use Rattle.circuit_laws.proofs.Rows.{row_peels}
use Rattle.circuit_laws.proofs.outputs.added_rows_are_cx.Goals as goal

pub returns : goal.returns
returns c = row_peels
