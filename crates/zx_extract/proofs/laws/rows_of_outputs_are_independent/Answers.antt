use Rattle.zx_extract.proofs.IndependentRows.{empty}
use Rattle.zx_extract.proofs.laws.rows_of_outputs_are_independent.Goals as goal

pub returns : goal.returns
returns c g table set formed flow equal outputs even w = empty g table formed flow equal set outputs even w
