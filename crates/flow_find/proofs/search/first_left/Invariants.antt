use Rattle.std.proofs.Common.{◌≡◌, ◌++◌, ℕ, true, IsTrue}
use Rattle.zx_model.specs.Bits.{member}
use Rattle.gflow_laws.specs.Seen.{seen}
use Rattle.gflow_laws.specs.Flow.{is_in}
use Rattle.flow_find.specs.Internal.Solving.{IsMissed}
use Rattle.flow_find.proofs.search.first_left.Given as goal

abbrev pub invariant-loop-v : goal.invariant-loop-v
invariant-loop-v l = record {
  all : l.yielded ++ l.v-iterator ≡ l.left.ids;
  passed : IsTrue l.all → (p : ℕ) → member p l.yielded ≡ true → IsMissed (seen l.g.graph) (is_in l.left.ids) l.rows p;
}
