use Rattle.std.proofs.Common.{◌≡◌, ◌<◌, ℕ, length}
use Rattle.std.specs.Prelude.{slice_index_or}
use Rattle.graph_like.proofs.phases.no_phases.Given as goal

abbrev pub invariant-loop : goal.invariant-loop
invariant-loop l = (length l.phases.items ≡ l.counter) × ((p o : ℕ) → p < l.counter → slice_index_or l.phases.items p o ≡ 0)
