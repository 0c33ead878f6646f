-- The laws, by their lemmas.
use Rattle.gflow_laws.proofs.Seeing.{alone_without_flow, has_neighbour}
use Rattle.gflow_laws.proofs.laws.an_inner_vertex_has_a_neighbour.Goals as goal

pub returns-clause-neighbour : goal.returns-clause-neighbour
returns-clause-neighbour c = has_neighbour

pub returns-clause-alone : goal.returns-clause-alone
returns-clause-alone c = alone_without_flow
