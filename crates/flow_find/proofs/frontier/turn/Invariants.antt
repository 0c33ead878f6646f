use Rattle.std.proofs.Common.{◌≡◌, ◌<◌, ◌≤◌, ◌⊎◌, ℕ, Bool, false, length}
use Rattle.zx_model.specs.Bits.{member}
use Rattle.gflow_laws.specs.Seen.{Seen}
use Rattle.flow_find.specs.Frontiers.{AreAll, IsFrontier, with_one}
use Rattle.flow_find.specs.Internal.Rows.{stale, IsCancelled}
use Rattle.flow_find.proofs.frontier.turn.Given as goal

abbrev pub invariant-turn : goal.invariant-turn
invariant-turn l = record {
  without : AreAll (λ row. member l.v row.columns.ids ≡ false) l.rows.items;
  few : length l.rows.items ≤ length l.initial.rows.items;
  fewer : IsCancelled l.v l.initial.rows.items → (length l.rows.items < length l.initial.rows.items) ⊎ IsCancelled l.v l.rows.items;
  kept : (s : Seen) (left may : ℕ → Bool) → IsFrontier s left (with_one left l.v) may l.initial.rows.items →
      IsFrontier s left (with_one left l.v) may l.rows.items;
}

abbrev pub decreases-turn : goal.decreases-turn
decreases-turn l = stale l.v l.rows.items
