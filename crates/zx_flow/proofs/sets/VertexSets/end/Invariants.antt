-- A bound of the sets so far.
use Rattle.std.proofs.Common.{◌≡◌, ℕ, ◌<◌, ◌≤◌, length}
use Rattle.zx_bits.specs.Sets.{IsBelow}
use Rattle.zx_flow.specs.VertexSets.{set_at}
use Rattle.zx_flow.proofs.sets.VertexSets.end.Given as goal

abbrev pub invariant-loop-set : goal.invariant-loop-set
invariant-loop-set l = record {
  all : l.set-items ≡ l.self.lists;
  sets : length l.self.lists ≤ l.end;
  so_far : (v : ℕ) → v < l.set-index → IsBelow l.end (set_at l.set-items v);
}
