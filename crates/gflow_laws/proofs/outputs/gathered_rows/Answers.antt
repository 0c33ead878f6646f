-- The laws, by their lemmas.
use Rattle.gflow_laws.proofs.LastLaws.{last-row_added, gathered-XY, gathered-YZ, alone-YZ}
use Rattle.gflow_laws.proofs.outputs.gathered_rows.Goals as goal

pub returns : goal.returns
returns c = record { added = last-row_added; XY = gathered-XY; YZ = gathered-YZ; YZ_alone = alone-YZ }
