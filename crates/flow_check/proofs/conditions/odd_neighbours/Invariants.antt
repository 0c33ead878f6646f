-- The rows of the members so far are added up.
use Rattle.std.proofs.Common.{◌≡◌, ◌++◌, ℕ}
use Rattle.zx_model.specs.Bits.{member}
use Rattle.gflow_laws.specs.Seen.{seen, in_odd_neighbourhood}
use Rattle.gflow_laws.specs.Flow.{is_in}
use Rattle.flow_check.proofs.conditions.odd_neighbours.Given as goal

abbrev pub invariant-loop-w : goal.invariant-loop-w
invariant-loop-w l = record {
  all : l.yielded ++ l.w-iterator ≡ l.members.ids;
  tells : (u : ℕ) → member u l.odd.ids ≡ in_odd_neighbourhood (seen l.g.graph) (is_in l.yielded) u;
}
