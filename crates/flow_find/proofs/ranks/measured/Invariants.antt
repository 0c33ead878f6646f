-- Those of the vertices so far that have no output.
use Rattle.std.proofs.Common.{◌≡◌, ◌++◌, not}
use Rattle.std.specs.List.{filter}
use Rattle.gflow_laws.specs.Seen.{seen}
use Rattle.flow_find.proofs.ranks.measured.Given as goal

abbrev pub invariant-loop-v : goal.invariant-loop-v
invariant-loop-v l = record {
  all : l.yielded ++ l.v-iterator ≡ (seen l.g.graph).ids;
  some : l.order.items ≡ filter (λ v. not ((seen l.g.graph).output v)) l.yielded;
}
