-- The sets so far have room.
use Rattle.std.proofs.Common.{◌≡◌, ℕ, ◌<◌, ◌≤◌, length}
use Rattle.zx_flow.specs.VertexSets.{SameSetsAt}
use Rattle.zx_flow.specs.Internal.Sets.{room_at}
use Rattle.zx_flow.proofs.sets.reserve_each.Given as goal

abbrev pub invariant-loop-set : goal.invariant-loop-set
invariant-loop-set l = record {
  length : length l.lists ≡ length l.fn.lists;
  same : SameSetsAt l.fn.lists l.lists;
  room : (p : ℕ) → room_at l.fn.lists p ≤ room_at l.lists p;
  so_far : (p : ℕ) → p < l.set-index → l.bound ≤ room_at l.lists p;
}
