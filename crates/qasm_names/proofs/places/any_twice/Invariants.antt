use Rattle.std.proofs.Common.{◌≡◌, length, map}
use Rattle.std.specs.Str.{bytes_eq}
use Rattle.qasm_scope.specs.Applications.{has_twice}
use Rattle.qasm_names.proofs.places.any_twice.Given as goal

abbrev pub invariant-loop-rest : goal.invariant-loop-rest
invariant-loop-rest l = has_twice bytes_eq (map (λ name. name.now) l.names) ≡ has_twice bytes_eq (map (λ name. name.now) l.rest)

abbrev pub decreases-loop-rest : goal.decreases-loop-rest
decreases-loop-rest l = length l.rest
