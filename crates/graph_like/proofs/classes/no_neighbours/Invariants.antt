use Rattle.std.proofs.Common.{◌≡◌, ℕ, length, []}
use Rattle.graph_like.specs.Internal.Fusing.{near_at}
use Rattle.graph_like.proofs.classes.no_neighbours.Given as goal

abbrev pub invariant-loop : goal.invariant-loop
invariant-loop l = (length l.near.items ≡ l.counter) × ((k : ℕ) → near_at l.near.items k ≡ [])
