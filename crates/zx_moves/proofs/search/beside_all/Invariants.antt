-- The neighbours that were looked at, and the vertices beside these.
use Rattle.std.proofs.Common.{◌≡◌, ◌++◌}
use Rattle.zx_calculus.specs.Graph.{neighbours}
use Rattle.zx_moves.specs.Internal.Searching.{TellsTwins}
use Rattle.zx_moves.proofs.search.beside_all.Given as goal

abbrev pub invariant-loop-near : goal.invariant-loop-near
invariant-loop-near l = record {
  all : l.yielded ++ l.near-iterator ≡ neighbours l.g.graph l.fn.u;
  tells : TellsTwins l.g.graph l.fn.u l.fn.index l.beside;
}
