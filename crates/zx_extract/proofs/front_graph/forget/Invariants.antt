-- Other vertices stay in the rows.
use Rattle.std.proofs.Common.{◌≡◌, ◌≢◌, ℕ}
use Rattle.zx_extract.specs.Internal.FrontGraphs.{row_has}
use Rattle.zx_extract.proofs.front_graph.forget.Given as goal

abbrev pub invariant-loop-output : goal.invariant-loop-output
invariant-loop-output l = (p q : ℕ) → q ≢ l.v → row_has l.rows.lists p q ≡ row_has l.initial.rows.lists p q
