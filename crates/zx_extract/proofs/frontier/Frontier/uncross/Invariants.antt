-- The first outputs are in place.
use Rattle.std.proofs.Common.{◌≡◌}
use Rattle.zx_extract.specs.Internal.Frontiers.{remainder_of}
use Rattle.zx_extract.specs.Internal.Steps.{IsUncrossed}
use Rattle.zx_extract.proofs.frontier.Frontier.uncross.Given as goal

abbrev pub invariant-loop-q : goal.invariant-loop-q
invariant-loop-q l = record {
  uncrossed : IsUncrossed (remainder_of l.initial.self) l.q l.outputs.items (remainder_of l.self).gates;
  graph : l.self.graph.graph ≡ l.initial.self.graph.graph;
}
