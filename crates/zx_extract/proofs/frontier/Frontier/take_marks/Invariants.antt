-- The first outputs are plain.
use Rattle.std.proofs.Common.{ℕ, ◌<◌}
use Rattle.zx_extract.specs.Internal.Frontiers.{remainder_of}
use Rattle.zx_extract.specs.Internal.Leading.{IsGiven, Leads}
use Rattle.zx_extract.specs.Internal.Lists.{IsPlainAt}
use Rattle.zx_extract.proofs.frontier.Frontier.take_marks.Given as goal

abbrev pub invariant-loop-q : goal.invariant-loop-q
invariant-loop-q l = record {
  leads : Leads (remainder_of l.initial.self) l.q 0 0 (remainder_of l.self);
  given : IsGiven (remainder_of l.self);
  plain : (p : ℕ) → p < l.q → IsPlainAt l.self.graph.graph.outputs p;
}
