-- Those so far are negated.
use Rattle.std.proofs.Common.{◌≡◌, ℕ, take}
use Rattle.phase_groups.specs.Groups.{group_of, turned_group}
use Rattle.phase_groups.specs.Internal.Noting.{stands_odd}
use Rattle.phase_groups.proofs.groups.PhaseGroups.turn.Given as goal

abbrev pub invariant-loop-v : goal.invariant-loop-v
invariant-loop-v l = record {
  groups : (w : ℕ) → group_of l.self w ≡ turned_group (stands_odd (take l.v-index l.vertices) w) (group_of l.fn.self w);
  phases : l.self.phases ≡ l.fn.self.phases;
}
