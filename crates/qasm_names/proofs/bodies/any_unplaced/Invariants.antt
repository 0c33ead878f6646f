use Rattle.std.proofs.Common.{◌≡◌, map, drop}
use Rattle.std.specs.List.{list_any}
use Rattle.qasm_names.proofs.bodies.any_unplaced.Given as goal
use Rattle.qasm_scope.specs.Faults.{is_other}
use Rattle.qasm_names.specs.Places.{place_in}

abbrev pub invariant-loop-name : goal.invariant-loop-name
invariant-loop-name l = list_any (is_other (place_in l.places)) (map (λ name. name.now) l.names) ≡ list_any (is_other (place_in l.places)) (map (λ name. name.now) (drop l.name-index l.names))
