-- The rows of the first outputs were added.
use Rattle.zx_extract.specs.Internal.Frontiers.{remainder_of}
use Rattle.zx_extract.specs.Internal.Steps.{IsGatheredBesideRow}
use Rattle.zx_extract.proofs.frontier.Frontier.gather_sets.Given as goal

abbrev pub invariant-loop-c : goal.invariant-loop-c
invariant-loop-c l = IsGatheredBesideRow (remainder_of l.initial.self) l.t l.c (remainder_of l.self)
