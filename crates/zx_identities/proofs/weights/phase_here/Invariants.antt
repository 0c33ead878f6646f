-- What is left to add makes all of it.
use Rattle.std.proofs.Common.{◌≡◌, ◌<◌, ◌+◌, ◌%◌, drop}
use Rattle.zx_model.specs.Phase.{turn}
use Rattle.zx_identities.specs.Internal.Packing.{here}
use Rattle.zx_identities.proofs.weights.phase_here.Given as goal

abbrev pub invariant-loop-group : goal.invariant-loop-group
invariant-loop-group l = record {
  small : l.phase < turn;
  all : (l.phase + here (drop l.group-index l.groups)) % turn ≡ here l.groups % turn;
}
