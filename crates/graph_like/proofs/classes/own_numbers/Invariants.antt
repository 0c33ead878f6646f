use Rattle.graph_like.specs.Classes.{named_by}
use Rattle.std.proofs.Common.{◌≡◌, ℕ, length}
use Rattle.graph_like.proofs.classes.own_numbers.Given as goal

abbrev pub invariant-loop-u : goal.invariant-loop-u
invariant-loop-u l = (length l.numbers.items ≡ l.u) × ((w : ℕ) → named_by l.numbers.items w ≡ w)
