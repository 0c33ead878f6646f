-- The law, by its lemma.
use Rattle.flow_find.proofs.Finding.{spanned}
use Rattle.flow_find.proofs.laws.only_xy_vertices_are_put.Goals as goal

pub returns : goal.returns
returns c = spanned
