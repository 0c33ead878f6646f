-- Edges to the first outputs are gone.
use Rattle.std.proofs.Common.{ℕ, ◌<◌}
use Rattle.zx_extract.specs.Internal.Frontiers.{remainder_of}
use Rattle.zx_extract.specs.Internal.Leading.{AreApart, Settles}
use Rattle.zx_extract.specs.Internal.Lists.{others_below}
use Rattle.zx_extract.proofs.frontier.Frontier.take_edges.Given as goal

abbrev pub invariant-loop-r : goal.invariant-loop-r
invariant-loop-r l = record {
  settles : Settles (remainder_of l.initial.self) (others_below l.q l.r) (remainder_of l.self);
  apart : (r : ℕ) → r < l.r → AreApart l.self.graph.graph l.q r;
}
