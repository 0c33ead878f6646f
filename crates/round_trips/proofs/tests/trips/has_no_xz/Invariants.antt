-- The vertices so far are in other planes.
use Rattle.std.proofs.Common.{◌≡◌, ◌≢◌, ℕ, ◌++◌, true}
use Rattle.zx_model.specs.Bits.{member}
use Rattle.zx_calculus.specs.Graph.{XZ, ids, plane_of}
use Rattle.round_trips.proofs.tests.trips.has_no_xz.Given as goal

abbrev pub invariant-loop-v : goal.invariant-loop-v
invariant-loop-v l = record {
  all : l.yielded ++ l.v-iterator ≡ ids l.graph.graph.vertices;
  others : (u : ℕ) → member u l.yielded ≡ true → plane_of l.graph.graph u ≢ XZ;
}
