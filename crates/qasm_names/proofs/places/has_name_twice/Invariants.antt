use Rattle.std.proofs.Common.{◌≡◌, map, take, false}
use Rattle.std.specs.Str.{bytes_eq}
use Rattle.qasm_names.specs.Places.{ArePlaces}
use Rattle.qasm_names.proofs.places.has_name_twice.Given as goal
use Rattle.qasm_scope.specs.Applications.{has_twice}

abbrev pub invariant-loop-place : goal.invariant-loop-place
invariant-loop-place l = record {
  known : ArePlaces l.places (map (λ name. name.now) (take l.place l.names));
  none_twice : has_twice bytes_eq (map (λ name. name.now) (take l.place l.names)) ≡ false;
}
