-- Vertex by vertex: one without an output has an input, or is interior and odd.
use Rattle.zx_calculus.proofs.ReducedLemmas.{reduced_few}
use Rattle.zx_calculus.proofs.counts.reduced_graphs_are_small.Goals as goal

pub returns : goal.returns
returns c = reduced_few
