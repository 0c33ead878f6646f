use Rattle.std.proofs.Common.{◌≡◌, map, take, drop}
use Rattle.std.specs.List.{list_any}
use Rattle.qasm_scope.specs.Angles.{place_or_zero}
use Rattle.qasm_scope.specs.Faults.{is_other}
use Rattle.qasm_names.specs.Places.{place_in}
use Rattle.qasm_names.proofs.bodies.places_of.Given as goal

abbrev pub invariant-loop-name : goal.invariant-loop-name
invariant-loop-name l = record {
  done : l.found.items ≡ map (λ name. place_or_zero (place_in l.places name)) (map (λ name. name.now) (take l.name-index l.names));
  all_placed : list_any (is_other (place_in l.places)) (map (λ name. name.now) l.names) ≡ list_any (is_other (place_in l.places)) (map (λ name. name.now) (drop l.name-index l.names));
}
