-- The vertex stands among the rest.
use Rattle.std.proofs.Common.{◌≡◌, drop, true}
use Rattle.zx_model.specs.Bits.{member}
use Rattle.zx_extract.proofs.crossing.place_of.Given as goal

abbrev pub invariant-loop-place : goal.invariant-loop-place
invariant-loop-place l = member l.v (drop l.place l.list) ≡ true
