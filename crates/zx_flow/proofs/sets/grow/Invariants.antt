use Rattle.std.proofs.Common.{ℕ, suc, ◌-◌, ◌≤◌, length, vec_len}
use Rattle.zx_flow.specs.VertexSets.{SameSetsAt}
use Rattle.zx_flow.specs.Internal.Sets.{room_at}
use Rattle.zx_flow.proofs.sets.grow.Given as goal

abbrev pub invariant-grow : goal.invariant-grow
invariant-grow l = record {
  grown : length l.initial.lists.items ≤ length l.lists.items;
  same : SameSetsAt l.initial.lists.items l.lists.items;
  room : (p : ℕ) → room_at l.initial.lists.items p ≤ room_at l.lists.items p;
}

abbrev pub decreases-grow : goal.decreases-grow
decreases-grow l = suc l.number - vec_len l.lists
