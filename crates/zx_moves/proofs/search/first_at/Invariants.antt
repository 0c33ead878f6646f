-- No move of the kinds so far applies at the vertex.
use Rattle.zx_moves.specs.Internal.Searching.{NoneBefore}
use Rattle.zx_moves.proofs.search.first_at.Given as goal

abbrev pub invariant-loop-i : goal.invariant-loop-i
invariant-loop-i l = NoneBefore l.g.graph l.i l.u
