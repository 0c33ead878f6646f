-- The first outputs are settled, with a pair of them for each edge.
use Rattle.std.proofs.Common.{ℕ, ◌+◌, ◌*◌, ◌≤◌, ltb}
use Rattle.zx_extract.specs.Internal.Frontiers.{remainder_of}
use Rattle.zx_extract.specs.Internal.Leading.{IsReady, IsSettled, Leads}
use Rattle.zx_extract.proofs.frontier.Frontier.settle_all.Given as goal

abbrev pub invariant-loop-q : goal.invariant-loop-q
invariant-loop-q l = record {
  leads : (k : ℕ) × (2 * k + l.q ≤ l.q * l.q) × Leads (remainder_of l.initial.self) (k + l.q) 0 0 (remainder_of l.self);
  ready : IsReady (remainder_of l.self);
  settled : IsSettled l.self.graph.graph (λ p. ltb p l.q);
}
