-- The groups so far with the terms that are left make all phases.
use Rattle.std.proofs.Common.{◌≡◌, ◌<◌, ◌≤◌, ◌+◌, ◌-◌, ◌%◌, Bool, List, length, drop}
use Rattle.zx_model.specs.Phase.{turn}
use Rattle.zx_identities.specs.Internal.Parities.{phase_of}
use Rattle.zx_identities.specs.Internal.Packing.{total}
use Rattle.zx_identities.proofs.packing.grouped.Given as goal

abbrev pub invariant-loop-start : goal.invariant-loop-start
invariant-loop-start l = record {
  within : l.start ≤ length l.terms;
  all : (x : List Bool) → length x < l.bits → (total l.groups.items 1 x + phase_of (drop l.start l.terms) x) % turn ≡ phase_of l.terms x % turn;
}

abbrev pub decreases-loop-start : goal.decreases-loop-start
decreases-loop-start l = length l.terms - l.start
