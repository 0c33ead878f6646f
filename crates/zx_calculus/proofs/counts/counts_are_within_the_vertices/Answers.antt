-- Vertex by vertex.
use Rattle.zx_calculus.proofs.ReducedLemmas.{counts_within}
use Rattle.zx_calculus.proofs.counts.counts_are_within_the_vertices.Goals as goal

pub returns : goal.returns
returns c = counts_within
