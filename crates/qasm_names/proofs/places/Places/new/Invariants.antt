use Rattle.std.proofs.Common.{map, take}
use Rattle.qasm_names.specs.Places.{ArePlaces}
use Rattle.qasm_names.proofs.places.Places.new.Given as goal

abbrev pub invariant-loop-place : goal.invariant-loop-place
invariant-loop-place l = ArePlaces l.places (map (λ name. name.now) (take l.place l.names))
