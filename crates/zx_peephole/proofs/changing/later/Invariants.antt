-- The link is of the chain, and leads past the place.
use Rattle.std.proofs.Common.{◌<◌}
use Rattle.zx_peephole.specs.Internal.Chains.{IsLinkOf}
use Rattle.zx_peephole.proofs.changing.later.Given as goal

abbrev pub invariant-loop-link : goal.invariant-loop-link
invariant-loop-link l = record {
  past : l.place < l.link;
  of_chain : IsLinkOf l.work l.qubit l.link l.found;
}

abbrev pub decreases-loop-link : goal.decreases-loop-link
decreases-loop-link l = l.link
